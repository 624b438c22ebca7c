-- Tests of holders: no ticket has two.
use Rattle.std.proofs.Common.{◌≡◌, ◌≢◌, ℕ, true, false, true≢false, refl, sym, ◌∙◌, eq-eqb, ne_eqb}
use Rattle.std.proofs.lemmas.Bool.{eqb-true}
use Rattle.es_event.specs.declared.row.Holder.{Holder}
use Rattle.es_event.specs.declared.row.Holder.TheVariants.{Agent, Port, Nobody}
use Rattle.es_event.specs.Rows.{is_agent, is_port}

pub of_itself : (a : ℕ) → is_agent a (Agent a) ≡ true
of_itself a = eq-eqb a a refl

pub of_another : (a b : ℕ) (h : Holder) → b ≢ a → is_agent a h ≡ true → is_agent b h ≡ false
of_another a b (Agent n) apart e = ne_eqb b n (λ x. apart (x ∙ sym (eqb-true a n e)))
of_another a b (Port s r) apart e = refl
of_another a b Nobody apart e = refl

-- what lies in a port no agent has
pub of_port : (s r b : ℕ) (h : Holder) → is_port s r h ≡ true → is_agent b h ≡ false
of_port s r b (Agent n) e = absurd (true≢false (sym e))
of_port s r b (Port t u) e = refl
of_port s r b Nobody e = refl
