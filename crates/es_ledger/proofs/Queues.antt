-- The messages of a port: their tickets lie there, and no serial stands in two of them.
use Rattle.std.proofs.Common.{◌≡◌, ◌≢◌, ℕ, List, [], ◌∷◌, ◌++◌, drop, Option, Some, sym, ap, ◌∙◌, subst}
use Rattle.std.specs.Prelude.{slice_get}
use Rattle.es_event.specs.declared.ledger_event.Body.{Body}
use Rattle.es_event.specs.declared.ledger_event.Body.TheVariants.{Plain, Block}
use Rattle.es_event.specs.declared.row.Entry.{Entry}
use Rattle.es_event.specs.declared.row.Holder.{Holder}
use Rattle.es_event.specs.Rows.{moved}
use Rattle.es_ledger.proofs.Lines.{holder_at, at_other, at_first}

abbrev pub HasOther : ℕ → Body → Type 0
HasOther k (Plain v) = Unit {0}
HasOther k (Block b j) = k ≢ j

-- this serial stands in none of the messages
abbrev pub NotIn : ℕ → List Body → Type 0
NotIn k [] = Unit {0}
NotIn k (m ∷ q) = HasOther k m × NotIn k q

-- the serial of this message stands in none of the others
abbrev pub AloneIn : Body → List Body → Type 0
AloneIn (Plain v) q = Unit {0}
AloneIn (Block b k) q = NotIn k q

abbrev pub AreApart : List Body → Type 0
AreApart [] = Unit {0}
AreApart (m ∷ q) = AloneIn m q × AreApart q

-- the message's ticket has this holder
abbrev pub LiesAt : Holder → List Entry → Body → Type 0
LiesAt h t (Plain v) = Unit {0}
LiesAt h t (Block b k) = holder_at k t ≡ Some h

abbrev pub AllLieAt : Holder → List Entry → List Body → Type 0
AllLieAt h t [] = Unit {0}
AllLieAt h t (m ∷ q) = LiesAt h t m × AllLieAt h t q

-- As the table changes

lies_append : (h : Holder) (t us : List Entry) (m : Body) → LiesAt h t m → LiesAt h (t ++ us) m
lies_append h t us (Plain v) lies = tt
lies_append h t us (Block b k) lies = at_first k h t us lies

pub lie_append : (h : Holder) (t us : List Entry) (q : List Body) → AllLieAt h t q → AllLieAt h (t ++ us) q
lie_append h t us [] lie = tt
lie_append h t us (m ∷ q) lie = (lies_append h t us m lie.0, lie_append h t us q lie.1)

lies_moved : (h to : Holder) (k : ℕ) (t : List Entry) (m : Body) → HasOther k m → LiesAt h t m → LiesAt h (moved k to t) m
lies_moved h to k t (Plain v) other lies = tt
lies_moved h to k t (Block b j) other lies = at_other j k to t (λ same. other (sym same)) ∙ lies

pub lie_moved : (h to : Holder) (k : ℕ) (t : List Entry) (q : List Body) → NotIn k q → AllLieAt h t q → AllLieAt h (moved k to t) q
lie_moved h to k t [] out lie = tt
lie_moved h to k t (m ∷ q) out lie = (lies_moved h to k t m out.0 lie.0, lie_moved h to k t q out.1 lie.1)

-- a ticket with another holder, or with none, is in none of the messages
has_other : (h : Holder) (k : ℕ) (t : List Entry) (o : Option Holder) (m : Body) → holder_at k t ≡ o → (o ≡ Some h → ⊥) → LiesAt h t m → HasOther k m
has_other h k t o (Plain v) is unlike lies = tt
has_other h k t o (Block b j) is unlike lies = λ same. unlike (sym is ∙ ap (λ n. holder_at n t) same ∙ lies)

pub not_in : (h : Holder) (k : ℕ) (t : List Entry) (o : Option Holder) (q : List Body) → holder_at k t ≡ o → (o ≡ Some h → ⊥) → AllLieAt h t q → NotIn k q
not_in h k t o [] is unlike lie = tt
not_in h k t o (m ∷ q) is unlike lie = (has_other h k t o m is unlike lie.0, not_in h k t o q is unlike lie.1)

-- As the port changes

pub lie_more : (h : Holder) (t : List Entry) (q : List Body) (m : Body) → AllLieAt h t q → LiesAt h t m → AllLieAt h t (q ++ m ∷ [])
lie_more h t [] m lie lies = (lies, tt)
lie_more h t (x ∷ q) m lie lies = (lie.0, lie_more h t q m lie.1 lies)

not_in_more : (k : ℕ) (q : List Body) (m : Body) → NotIn k q → HasOther k m → NotIn k (q ++ m ∷ [])
not_in_more k [] m out other = (other, tt)
not_in_more k (x ∷ q) m out other = (out.0, not_in_more k q m out.1 other)

alone_first : (x m : Body) (q : List Body) → AloneIn m (x ∷ q) → AloneIn x q → AloneIn x (q ++ m ∷ [])
alone_first (Plain v) m q new old = tt
alone_first (Block b k) (Plain v) q new old = not_in_more k q (Plain v) old tt
alone_first (Block b k) (Block c j) q new old = not_in_more k q (Block c j) old (λ same. new.0 (sym same))

alone_rest : (x m : Body) (q : List Body) → AloneIn m (x ∷ q) → AloneIn m q
alone_rest x (Plain v) q new = tt
alone_rest x (Block c j) q new = new.1

pub apart_more : (q : List Body) (m : Body) → AreApart q → AloneIn m q → AreApart (q ++ m ∷ [])
apart_more [] m apart new = (new, tt)
apart_more (x ∷ q) m apart new = (alone_first x m q new apart.0, apart_more q m apart.1 (alone_rest x m q new))

pub lie_fewer : (h : Holder) (t : List Entry) (q : List Body) → AllLieAt h t q → AllLieAt h t (drop 1 q)
lie_fewer h t [] lie = tt
lie_fewer h t (m ∷ q) lie = lie.1

pub apart_fewer : (q : List Body) → AreApart q → AreApart (drop 1 q)
apart_fewer [] apart = tt
apart_fewer (m ∷ q) apart = apart.1

pub front_lies : (h : Holder) (t : List Entry) (q : List Body) (m : Body) → slice_get q 0 ≡ Some m → AllLieAt h t q → LiesAt h t m
front_lies h t [] m is lie = cc
front_lies h t (x ∷ q) m is lie = let same : x ≡ m = cc in subst (LiesAt h t) same lie.0

pub front_alone : (q : List Body) (m : Body) → slice_get q 0 ≡ Some m → AreApart q → AloneIn m (drop 1 q)
front_alone [] m is apart = cc
front_alone (x ∷ q) m is apart = let same : x ≡ m = cc in subst (λ m. AloneIn m q) same apart.0
