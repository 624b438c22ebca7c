-- Internal: deeds, as the code has them.
use Rattle.std.specs.Prelude.{ℕ, List, map, Option}
use Rattle.std.specs.Option.{option_map}
use Rattle.es_match.specs.declared.deed.Deed.{Deed}
use Rattle.es_match.specs.declared.deed.Deed.TheVariants.{Open, Post, Take, Spend, Access, Wait, Pass, End, Sleep, Notify, Wake, TimeOut}
use Rattle.es_match.specs.Deeds.{Deed as DeedSaid, Owned, Opens, Posts, Takes, Spends, Accesses, Waits, Passes, Ends, Sleeps, Notifies, Wakes, TimesOut}

abbrev pub shown : Deed → DeedSaid
shown (Open b w s) = Opens b w s
shown (Post r m) = Posts r m.now
shown (Take s m w) = Takes s (option_map (λ b. b.now) m) w
shown (Spend s) = Spends s
shown (Access s i m old) = Accesses s i m old
shown (Wait s) = Waits s
shown (Pass s) = Passes s
shown End = Ends
shown (Sleep s i w) = Sleeps s i w
shown (Notify s i n k) = Notifies s i n k
shown (Wake o) = Wakes o
shown (TimeOut o) = TimesOut o

abbrev pub all_shown : List Deed → List DeedSaid
all_shown ds = map shown ds

abbrev pub owned : Option (ℕ × Deed) → Owned
owned o = option_map (λ p. (p.0, shown p.1)) o
