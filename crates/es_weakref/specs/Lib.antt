pub mod WeakRefs
