-- A step of an agent without buffer objects leaves it so, and makes its history one event longer.
use Rattle.std.proofs.Common.{◌≡◌, ℕ, ◌+◌, Bool, true, false, ◌∙◌, ap, [], length, subst, sym, arith}
use Rattle.es_record.specs.AgentView.{AgentView}
use Rattle.embed.specs.declared.drive.Outside.{Outside}
use Rattle.embed.specs.Outside.{MeetsAll}
use Rattle.embed.specs.Steps.{Goes}

-- what an agent of this plan, before which these lay outside, came to after so many events
pub record Stepped (first : AgentView) (before : Outside) (n : ℕ) (b : AgentView) (after : Outside) : Type 0 where
  pub plan : b.plan ≡ first.plan
  pub bare : b.over ≡ []
  pub meets : MeetsAll b.history before after
  pub long : length b.history ≡ n

pub one_stepped : (first b new : AgentView) (before o after : Outside) (n : ℕ) (went : Bool) → went ≡ true → Stepped first before n b o → Goes went b o new after → Stepped first before (n + 1) new after
one_stepped first b new before o after n false so was goes = cc
one_stepped first b new before o after n true so was goes = record {
  plan = ap (λ (a : AgentView). a.plan) goes.1 ∙ was.plan;
  bare = ap (λ (a : AgentView). a.over) goes.1 ∙ was.bare;
  meets = subst (λ h. MeetsAll h before after) (sym (ap (λ (a : AgentView). a.history) goes.1)) (o, was.meets, goes.2);
  long = ap (λ (a : AgentView). length a.history) goes.1 ∙ omega (arith, was.long);
}
