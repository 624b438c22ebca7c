-- Who sleeps has a sleep.
use Rattle.std.proofs.Common.{◌≡◌, ℕ, Bool, true, false, cond, ap, refl, ◌∙◌, [], ◌∷◌, ◌==◌, Option, Some, None}
use Rattle.std.specs.Prelude.{is_some}
use Rattle.es_event.specs.declared.ledger_event.Act.{Act}
use Rattle.es_event.specs.declared.ledger_event.Act.TheVariants.{Ended, Slept, Woke, TimedOut}
use Rattle.es_event.specs.declared.ledger_event.LedgerEvent.TheVariants.{Acted}
use Rattle.es_event.specs.Ledger.{Ledger}
use Rattle.es_event.specs.Waiters.{asleep, asleep_after}
use Rattle.es_match.specs.declared.deed.Sleep.{Sleep}
use Rattle.es_match.specs.Deeds.{sleep_of, sleeps_after}

by_test : (t : Bool) (o p : Option Sleep) → is_some (cond t o p) ≡ cond t (is_some o) (is_some p)
by_test true o p = refl
by_test false o p = refl

after_act : (c : ℕ) (d : Act) (a : ℕ) (o : Option Sleep) → is_some (sleeps_after c d a o) ≡ asleep_after c d a (is_some o)
after_act c (Slept s i w) a o = by_test (c == a) (Some (record { serial = s; index = i; word = w })) o
after_act c Ended a o = by_test (c == a) None o
after_act c Woke a o = by_test (c == a) None o
after_act c TimedOut a o = by_test (c == a) None o
after_act c _ a o = refl

pub has_a_sleep : (l : Ledger) (a : ℕ) → is_some (sleep_of l a) ≡ asleep l a
has_a_sleep [] a = refl
has_a_sleep (Acted c d ∷ l) a = after_act c d a (sleep_of l a) ∙ ap (asleep_after c d a) (has_a_sleep l a)
has_a_sleep (_ ∷ l) a = has_a_sleep l a
