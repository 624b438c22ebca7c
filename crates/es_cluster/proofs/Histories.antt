-- The histories of agents that have ended, one more.
use Rattle.std.proofs.Common.{◌≡◌, ℕ, zero, suc, true, sym, ◌∙◌, ap, refl, subst, List, [], ◌∷◌, ◌++◌, append-nil, map, reverse, length, Some}
use Rattle.std.specs.Prelude.{slice_get}
use Rattle.std.specs.List.{AllByRecursion}
use Rattle.std.proofs.lemmas.List.{map-append}
use Rattle.es_event.specs.declared.event.Event.{Event}
use Rattle.es_event.specs.Ledger.{Ledger, table}
use Rattle.es_event.specs.LegalLedger.{all_ended}
use Rattle.es_event.specs.Order.{Phase, between, handed, inside, stopped, ended, phase}
use Rattle.es_event.specs.Rows.{held}
use Rattle.es_event.specs.Runs.{IsRunOver}
use Rattle.es_match.specs.Cluster.{Account}
use Rattle.es_agent.specs.Tickets.{is_ended}
use Rattle.es_ledger.specs.LedgerView.{LedgerView}
use Rattle.es_cluster.proofs.Midway.{ended_where_all}
use Rattle.es_cluster.specs.Members.{MemberView}
use Rattle.es_record.specs.AgentView.{AgentView}
use Rattle.es_cluster.specs.Ends.{AreEnded, AreHistories, HaveNoTicket, IsWhole}
use Rattle.es_cluster.specs.Moves.{is_over}
use Rattle.es_cluster.specs.State.{account, accounts, cores, ArePlaced}

at_end : (p : Phase) → is_ended p ≡ true → p ≡ ended
at_end between is = cc
at_end handed is = cc
at_end inside is = cc
at_end stopped is = cc
at_end ended is = refl

all_more : (P : Account → Type 0) (xs : List Account) (x : Account) → AllByRecursion P xs → P x → AllByRecursion P (xs ++ x ∷ [])
all_more P [] x before last = (last, tt)
all_more P (y ∷ xs) x before last = (before.0, all_more P xs x before.1 last)

pub histories_more : (bs : List AgentView) (hs : List (List Event)) (b : AgentView) (h : List Event) → AreHistories bs hs → reverse h ≡ b.history → IsRunOver b.over b.plan b.history → is_over b ≡ true → AreHistories (bs ++ b ∷ []) (hs ++ h ∷ [])
histories_more bs hs b h before events run over = record {
  are = map-append (λ h. reverse h) hs (h ∷ []) ∙ ap (λ ls. ls ++ reverse h ∷ []) before.are ∙ ap (λ e. map (λ b. b.history) bs ++ e ∷ []) events ∙ sym (map-append (λ b. b.history) bs (b ∷ []));
  runs = subst (AllByRecursion IsWhole) (sym (map-append account bs (b ∷ [])))
      (all_more IsWhole (accounts bs) (account b) before.runs (run.0, (run.1, at_end (phase b.history) over)));
}

each_more : (P : AgentView → Type 0) (xs : List AgentView) (x : AgentView) → ((n : ℕ) (y : AgentView) → slice_get xs n ≡ Some y → P y) → P x → (n : ℕ) (y : AgentView) → slice_get (xs ++ x ∷ []) n ≡ Some y → P y
each_more P [] x all last zero y is = let same : x ≡ y = cc in subst P same last
each_more P [] x all last (suc n) y is = cc
each_more P (z ∷ xs) x all last zero y is = all 0 y is
each_more P (z ∷ xs) x all last (suc n) y is = each_more P xs x (λ m. all (suc m)) last n y is

pub none_more : (bs : List AgentView) (b : AgentView) (l : Ledger) → HaveNoTicket bs l → held b.number (table l) ≡ [] → HaveNoTicket (bs ++ b ∷ []) l
none_more bs b l before last = each_more (λ b. held b.number (table l) ≡ []) bs b before last

-- where all have ended in the ledger, each has closed
pub are_ended : (bs : List AgentView) (l : LedgerView) → ArePlaced bs l → all_ended l.history l.agents ≡ true → AreEnded bs
are_ended bs l placed all n b is =
    let at = placed.each n b is in
    sym at.seated.over ∙ ended_where_all l.history l.agents b.number at.seated.known all

pub at_done : (done rest : List MemberView) (m : MemberView) → slice_get (cores (done ++ m ∷ rest)) (length done) ≡ Some m.core
at_done [] rest m = refl
at_done (d ∷ done) rest m = at_done done rest m

pub cores_more : (done : List MemberView) (m : MemberView) → cores (done ++ m ∷ []) ≡ cores done ++ m.core ∷ []
cores_more done m = map-append (λ m. m.core) done (m ∷ [])

pub all_done : (all done left : List MemberView) → all ≡ done ++ reverse left → left ≡ [] → all ≡ done
all_done all done left is none = is ∙ ap (λ ms. done ++ reverse ms) none ∙ append-nil done
