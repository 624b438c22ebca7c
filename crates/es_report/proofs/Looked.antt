-- What one more event leaves of what is kept of one registration.
use Rattle.std.proofs.Common.{◌≡◌, ℕ, suc, ◌+◌, ◌<◌, ◌≤◌, ◌^◌, ◌==◌, Bool, true, false, cond, sym, ◌∙◌, ap, refl, subst, arith, List, ◌∷◌, Option, Some, None}
use Rattle.std.specs.Prelude.{unwrap_or}
use Rattle.std.specs.List.{count_by, range_with_len}
use Rattle.std.specs.Option.{option_map, option_map_or, option_or}
use Rattle.es_value.specs.declared.value.Value.{Value}
use Rattle.es_event.specs.declared.event.Answer.{Answer}
use Rattle.es_event.specs.declared.command.Command.{Command}
use Rattle.es_event.specs.declared.event.Event.{Event}
use Rattle.es_event.specs.declared.event.Event.TheVariants.{Did}
use Rattle.es_event.specs.History.{History, earliest, at_key}
use Rattle.es_event.specs.Identities.{is_gone}
use Rattle.es_event.specs.Registrations.{Cell, registers, registers_by, registered, cell, Fate, live, awaiting, unregistered, taken, same_fate, removes, fate, present_fate}
use Rattle.es_event.proofs.Cells.{registered_next, registered_same}
use Rattle.es_event.proofs.Entries.{mapped}
use Rattle.es_registry.specs.declared.slot.Tally.{Tally}
use Rattle.es_report.specs.declared.fates.Fate.{Fate as Settled}
use Rattle.es_report.specs.declared.registered.Made.{Made}
use Rattle.es_report.specs.Registered.{made_of, fate_of, made_by, one_more, IsBelow}
use Rattle.es_report.specs.Tallies.{end_tally}
use Rattle.es_report.proofs.Lists.{count_few, count_last}
use Rattle.es_report.proofs.Noted.{either_cell, makes_alone, made_is, or_none, unmoved_by}
use Rattle.es_report.specs.declared.looking.Look.{Look}
use Rattle.es_report.specs.Looking.{Looks, first_of, present, removed_by, with_made}

-- an event that makes no registration
pub unmade : (e : Event) (n : ℕ) (h : History) (k : Look) (r : Option Settled) → registers e ≡ None → option_or (earliest (removes n) h) (removes n h e) ≡ option_map fate_of r
    → Looks n h k → Looks n (e ∷ h) (record { made = k.made; cell = k.cell; removal = r })
unmade e n h k r none out says = record {
  made = says.made ∙ sym (registered_same e h none);
  cell = ap (λ r. option_map made_of (unwrap_or (at_key (λ i j. i == j) n (option_map (λ c. (registered h + 1, Some c)) r)) (cell h n))) none ∙ says.cell;
  removal = out;
}

first_said : (o : Option Settled) (b : Bool) (f : Settled) → option_or (option_map fate_of o) (cond b (Some (fate_of f)) None) ≡ option_map fate_of (first_of o b f)
first_said None true f = refl
first_said None false f = refl
first_said (Some g) b f = refl

-- an event that takes it out, if it does
pub removed : (e : Event) (n : ℕ) (h : History) (k : Look) (b : Bool) (f : Settled) → registers e ≡ None → removes n h e ≡ cond b (Some (fate_of f)) None → Looks n h k → Looks n (e ∷ h) (removed_by k b f)
removed e n h k b f none out says =
    unmade e n h k (first_of k.removal b f) none (ap (option_or (earliest (removes n) h)) out ∙ ap (λ o. option_or o (cond b (Some (fate_of f)) None)) says.removal ∙ first_said k.removal b f) says

registered_after : (e : Event) (n : ℕ) (h : History) (k : Look) (q : Cell) → registers e ≡ Some q → removes n h e ≡ None → Looks n h k → Looks n (e ∷ h) (with_made k (made_of q) n)
registered_after e n h k q is out says = record {
  made = let next : registered (e ∷ h) ≡ registered h + 1 = registered_next e h q is in let before : k.made ≡ registered h = says.made in omega (arith, next, before);
  cell =
      ap (λ r. option_map made_of (unwrap_or (at_key (λ i j. i == j) n (option_map (λ c. (registered h + 1, Some c)) r)) (cell h n))) is
      ∙ either_cell (registered h + 1 == n) q (cell h n) k.cell says.cell
      ∙ ap (λ m. cond (m + 1 == n) (Some (made_of q)) k.cell) (sym says.made);
  removal = ap (option_or (earliest (removes n) h)) out ∙ or_none (earliest (removes n) h) ∙ says.removal;
}

-- a command that makes a registration
pub made_after : (c : Command) (vs : List Value) (a : Answer) (n : ℕ) (h : History) (k : Look) (m : Made) → made_by c vs ≡ Some m → Looks n h k → Looks n (Did (c, vs, a) ∷ h) (with_made k m n)
made_after c vs a n h k m is says =
    let at = mapped made_of (registers_by c vs) m (sym (made_is c vs) ∙ is) in
    subst (λ m. Looks n (Did (c, vs, a) ∷ h) (with_made k m n)) at.2 (registered_after (Did (c, vs, a)) n h k at.0 at.1 (unmoved_by c vs a h (makes_alone c vs at.0 at.1) n) says)

-- What became of it

present_is : (h : History) (o : Option Cell) (k : Option Made) → option_map made_of o ≡ k → cond (option_map_or (λ c. is_gone h c.target) o false) awaiting live ≡ present h k
present_is h None k e = ap (present h) e
present_is h (Some c) k e = ap (present h) e

pub fate_is : (n : ℕ) (h : History) (k : Look) (f : Settled) → Looks n h k → k.removal ≡ Some f → fate_of f ≡ fate h n
fate_is n h k f says is = sym (ap (λ o. unwrap_or o (present_fate h n)) (says.removal ∙ ap (option_map fate_of) is))

pub present_fate_is : (n : ℕ) (h : History) (k : Look) → Looks n h k → k.removal ≡ None → present h k.cell ≡ fate h n
present_fate_is n h k says is = sym (ap (λ o. unwrap_or o (present_fate h n)) (says.removal ∙ ap (option_map fate_of) is) ∙ present_is h (cell h n) k.cell says.cell)

-- All of them

abbrev pub tally_to : History → ℕ → Tally
tally_to h k =
    record {
      live = count_by (λ n. same_fate (fate h n) live) (range_with_len 1 k);
      awaiting = count_by (λ n. same_fate (fate h n) awaiting) (range_with_len 1 k);
      unregistered = count_by (λ n. same_fate (fate h n) unregistered) (range_with_len 1 k);
      taken = count_by (λ n. same_fate (fate h n) taken) (range_with_len 1 k);
    }

counted_next : (h : History) (k : ℕ) (g : Fate) → count_by (λ n. same_fate (fate h n) g) (range_with_len 1 (k + 1)) ≡ count_by (λ n. same_fate (fate h n) g) (range_with_len 1 k) + cond (same_fate (fate h (k + 1)) g) 1 0
counted_next h k g =
    let next : k + 1 ≡ suc k = omega arith in
    ap (λ j. count_by (λ n. same_fate (fate h n) g) (range_with_len 1 j)) next ∙ count_last (λ n. same_fate (fate h n) g) 1 k (k + 1) (omega arith)

pub counted_more : (h : History) (k : ℕ) (f : Fate) (t more : Tally) → f ≡ fate h (k + 1) → t ≡ tally_to h k → more ≡ one_more f t → more ≡ tally_to h (k + 1)
counted_more h k f t more is before added =
    added ∙ ap (one_more f) before ∙ ap (λ f. one_more f (tally_to h k)) is
    ∙ (λ i. record { live = sym (counted_next h k live) i; awaiting = sym (counted_next h k awaiting) i; unregistered = sym (counted_next h k unregistered) i; taken = sym (counted_next h k taken) i })

pub few_to : (h : History) (k : ℕ) (t : Tally) → k < 2 ^ 63 → t ≡ tally_to h k → IsBelow (2 ^ 63) t
few_to h k t small is =
    let a : t.live ≤ k = count_few (λ n. same_fate (fate h n) live) 1 k t.live (ap (λ t. t.live) is) in
    let b : t.awaiting ≤ k = count_few (λ n. same_fate (fate h n) awaiting) 1 k t.awaiting (ap (λ t. t.awaiting) is) in
    let c : t.unregistered ≤ k = count_few (λ n. same_fate (fate h n) unregistered) 1 k t.unregistered (ap (λ t. t.unregistered) is) in
    let d : t.taken ≤ k = count_few (λ n. same_fate (fate h n) taken) 1 k t.taken (ap (λ t. t.taken) is) in
    record { of_live = omega (arith, a); of_awaiting = omega (arith, b); of_unregistered = omega (arith, c); of_taken = omega (arith, d) }

pub all_to : (h : History) (k : ℕ) (t : Tally) → k ≡ registered h → t ≡ tally_to h k → t ≡ end_tally h
all_to h k t all is = is ∙ ap (tally_to h) all
