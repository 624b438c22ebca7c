use Rattle.std.proofs.Common.{◌≡◌, refl, ap, subst, sym, ◌∙◌, inl}
use Rattle.std.specs.Prelude.{IfOk}
use Rattle.es_event.specs.Ledger.{Ledger, ended}
use Rattle.es_event.specs.LegalLedger.{has_message}
use Rattle.es_ledger.specs.Turns.{told}
use Rattle.es_ledger.specs.declared.turn.Turn.{Turn}
use Rattle.es_ledger.specs.declared.turn.Turn.TheVariants.{Stay, Skip}
use Rattle.es_cluster.specs.Midway.{IsHeld}
use Rattle.es_cluster.specs.Tied.{GrowsBy}
use Rattle.es_cluster.specs.Turned.{WaitsRightly, StaysTied}
use Rattle.es_cluster.proofs.Growing.{grows_none}
use Rattle.es_cluster.proofs.Hearing.{goes_on, where_ready, where_stay, where_skip, stay_ties, stay_keeps, skipped_ties, skipped_keeps, unskipped_keeps}
use Rattle.es_cluster.proofs.MovingMembers.{kept, keeps_on}
use Rattle.es_cluster.proofs.Midway.{whole}
use Rattle.es_cluster.proofs.turns.hearing.hear.Goals as goal

pub returns-in_err-await_message-clause-keeps : goal.returns-in_err-await_message-clause-keeps
returns-in_err-await_message-clause-keeps g c =
    kept c.args.core.now c.args.core.now c.args.stake.now c.args.stake.now c.args.ledger.now c.await_message.new.self c.requires.ready refl refl c.in_err-await_message.ensures.err

pub receive-requires-clause-ready : goal.receive-requires-clause-ready
receive-requires-clause-ready g c =
    let same = where_ready c.args.ledger.now.history c.await_message.new.self.history c.args.ledger.now.agents c.number.result c.args.sender (subst (λ (t : Turn). ◌≡◌ {A = Turn × Ledger} (t, c.await_message.new.self.history) (told c.args.ledger.now.history c.args.ledger.now.agents c.number.result c.args.sender)) c.in-Ready.is c.in_ok-await_message.ensures.told) in
    subst (IsHeld c.args.core.now c.args.stake.now) (sym (λ i. record { agents = c.await_message.ensures.agents i; history = same.0 i })) c.requires.ready

pub receive-requires-clause-there : goal.receive-requires-clause-there
receive-requires-clause-there g c =
    let same = where_ready c.args.ledger.now.history c.await_message.new.self.history c.args.ledger.now.agents c.number.result c.args.sender (subst (λ (t : Turn). ◌≡◌ {A = Turn × Ledger} (t, c.await_message.new.self.history) (told c.args.ledger.now.history c.args.ledger.now.agents c.number.result c.args.sender)) c.in-Ready.is c.in_ok-await_message.ensures.told) in
    ap (λ l. has_message l c.args.sender c.args.core.now.number) same.0 ∙ ap (has_message c.args.ledger.now.history c.args.sender) (sym c.number.ensures) ∙ same.1

pub returns-in-Ready-clause-keeps : goal.returns-in-Ready-clause-keeps
returns-in-Ready-clause-keeps g c =
    let same = where_ready c.args.ledger.now.history c.await_message.new.self.history c.args.ledger.now.agents c.number.result c.args.sender (subst (λ (t : Turn). ◌≡◌ {A = Turn × Ledger} (t, c.await_message.new.self.history) (told c.args.ledger.now.history c.args.ledger.now.agents c.number.result c.args.sender)) c.in-Ready.is c.in_ok-await_message.ensures.told) in
    keeps_on c.args.core.now c.args.ledger.now c.await_message.new.self c.receive.new.ledger c.receive.new.core c.receive.new.stake c.receive.ensures.keeps c.await_message.ensures.agents (ap (λ l. ended l c.args.core.now.number) same.0)
    (subst (GrowsBy c.args.core.now.number c.args.ledger.now.history) (sym same.0) (grows_none c.args.core.now.number c.args.ledger.now.history))

pub returns-in-Ready-clause-told : goal.returns-in-Ready-clause-told
returns-in-Ready-clause-told g c =
    let same = where_ready c.args.ledger.now.history c.await_message.new.self.history c.args.ledger.now.agents c.number.result c.args.sender (subst (λ (t : Turn). ◌≡◌ {A = Turn × Ledger} (t, c.await_message.new.self.history) (told c.args.ledger.now.history c.args.ledger.now.agents c.number.result c.args.sender)) c.in-Ready.is c.in_ok-await_message.ensures.told) in
    let ledger : c.await_message.new.self ≡ c.args.ledger.now = λ i. record { agents = c.await_message.ensures.agents i; history = same.0 i } in
    subst (λ l. IfOk c.receive.result (λ p. WaitsRightly p c.args.core.now l c.receive.new.ledger)) ledger c.receive.ensures.told

pub returns-in-Ready-clause-tied : goal.returns-in-Ready-clause-tied
returns-in-Ready-clause-tied g c =
    let same = where_ready c.args.ledger.now.history c.await_message.new.self.history c.args.ledger.now.agents c.number.result c.args.sender (subst (λ (t : Turn). ◌≡◌ {A = Turn × Ledger} (t, c.await_message.new.self.history) (told c.args.ledger.now.history c.args.ledger.now.agents c.number.result c.args.sender)) c.in-Ready.is c.in_ok-await_message.ensures.told) in
    let ledger : c.await_message.new.self ≡ c.args.ledger.now = λ i. record { agents = c.await_message.ensures.agents i; history = same.0 i } in
    subst (λ l. IfOk c.receive.result (λ p. StaysTied p c.args.core.now l c.receive.new.core c.receive.new.ledger)) ledger c.receive.ensures.tied

pub returns-in-Stay-clause-told : goal.returns-in-Stay-clause-told
returns-in-Stay-clause-told g c = inl (
  c.args.sender,
  c.requires.due,
  subst (λ n. ◌≡◌ {A = Turn × Ledger} (Stay, c.await_message.new.self.history) (told c.args.ledger.now.history c.args.ledger.now.agents n c.args.sender)) c.number.ensures
      (subst (λ (t : Turn). ◌≡◌ {A = Turn × Ledger} (t, c.await_message.new.self.history) (told c.args.ledger.now.history c.args.ledger.now.agents c.number.result c.args.sender)) c.in-Stay.is c.in_ok-await_message.ensures.told),
)

pub returns-in-Stay-clause-tied : goal.returns-in-Stay-clause-tied
returns-in-Stay-clause-tied g c =
    λ seated tied. stay_ties c.args.core.now c.args.stake.now c.args.ledger.now c.await_message.new.self.history c.number.result c.args.sender (whole c.requires.ready seated tied) c.requires.due c.number.ensures
    (where_stay c.args.ledger.now.history c.await_message.new.self.history c.args.ledger.now.agents c.number.result c.args.sender (subst (λ (t : Turn). ◌≡◌ {A = Turn × Ledger} (t, c.await_message.new.self.history) (told c.args.ledger.now.history c.args.ledger.now.agents c.number.result c.args.sender)) c.in-Stay.is c.in_ok-await_message.ensures.told))

pub returns-in-Stay-clause-keeps : goal.returns-in-Stay-clause-keeps
returns-in-Stay-clause-keeps g c =
    stay_keeps c.args.core.now c.args.stake.now c.args.ledger.now c.await_message.new.self c.number.result c.args.sender c.requires.ready c.number.ensures c.await_message.ensures.agents
    (where_stay c.args.ledger.now.history c.await_message.new.self.history c.args.ledger.now.agents c.number.result c.args.sender (subst (λ (t : Turn). ◌≡◌ {A = Turn × Ledger} (t, c.await_message.new.self.history) (told c.args.ledger.now.history c.args.ledger.now.agents c.number.result c.args.sender)) c.in-Stay.is c.in_ok-await_message.ensures.told))

pub returns-in_err-skip-in-Skip-clause-keeps : goal.returns-in_err-skip-in-Skip-clause-keeps
returns-in_err-skip-in-Skip-clause-keeps g c =
    unskipped_keeps c.args.core.now c.skip.new.self c.args.stake.now c.args.ledger.now c.await_message.new.self c.number.result c.args.sender c.requires.ready c.number.ensures c.await_message.ensures.agents
    (where_skip c.args.ledger.now.history c.await_message.new.self.history c.args.ledger.now.agents c.number.result c.args.sender (subst (λ (t : Turn). ◌≡◌ {A = Turn × Ledger} (t, c.await_message.new.self.history) (told c.args.ledger.now.history c.args.ledger.now.agents c.number.result c.args.sender)) c.in-Skip.is c.in_ok-await_message.ensures.told)) c.in_err-skip-in-Skip.ensures.err

pub returns-in_ok-skip-in-Skip-clause-tied : goal.returns-in_ok-skip-in-Skip-clause-tied
returns-in_ok-skip-in-Skip-clause-tied g c =
    λ seated tied. skipped_ties c.args.core.now c.skip.new.self c.args.stake.now c.args.ledger.now c.await_message.new.self.history c.number.result c.args.sender (whole c.requires.ready seated tied) c.requires.due c.number.ensures
    (where_skip c.args.ledger.now.history c.await_message.new.self.history c.args.ledger.now.agents c.number.result c.args.sender (subst (λ (t : Turn). ◌≡◌ {A = Turn × Ledger} (t, c.await_message.new.self.history) (told c.args.ledger.now.history c.args.ledger.now.agents c.number.result c.args.sender)) c.in-Skip.is c.in_ok-await_message.ensures.told)) c.in_ok-skip-in-Skip.ensures.ok

pub returns-in_ok-skip-in-Skip-clause-keeps : goal.returns-in_ok-skip-in-Skip-clause-keeps
returns-in_ok-skip-in-Skip-clause-keeps g c =
    skipped_keeps c.args.core.now c.skip.new.self c.args.stake.now c.args.ledger.now c.await_message.new.self c.number.result c.args.sender c.requires.ready c.number.ensures c.await_message.ensures.agents
    (where_skip c.args.ledger.now.history c.await_message.new.self.history c.args.ledger.now.agents c.number.result c.args.sender (subst (λ (t : Turn). ◌≡◌ {A = Turn × Ledger} (t, c.await_message.new.self.history) (told c.args.ledger.now.history c.args.ledger.now.agents c.number.result c.args.sender)) c.in-Skip.is c.in_ok-await_message.ensures.told)) c.in_ok-skip-in-Skip.ensures.ok

pub returns-in_ok-skip-in-Skip-clause-told : goal.returns-in_ok-skip-in-Skip-clause-told
returns-in_ok-skip-in-Skip-clause-told g c =
    goes_on c.args.core.now c.args.ledger.now c.await_message.new.self c.args.sender Skip c.await_message.new.self.history c.requires.due
    (subst (λ n. ◌≡◌ {A = Turn × Ledger} (Skip, c.await_message.new.self.history) (told c.args.ledger.now.history c.args.ledger.now.agents n c.args.sender)) c.number.ensures
    (subst (λ (t : Turn). ◌≡◌ {A = Turn × Ledger} (t, c.await_message.new.self.history) (told c.args.ledger.now.history c.args.ledger.now.agents c.number.result c.args.sender)) c.in-Skip.is c.in_ok-await_message.ensures.told)) (λ e. cc)
