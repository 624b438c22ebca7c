-- Symbols are printed, and only those outside the registry are held weakly; a text is not the registered symbol of that text; the least
-- number and the empty text are printed.
use Rattle.std.proofs.Common.{true, false, refl, [], ◌∷◌, codes, rules}
use Rattle.std.specs.Prelude.{pos, negsuc}
use Rattle.std.specs.Fmt.{digits}
use Rattle.es_value.specs.declared.value.Value.TheVariants.{Undefined, Boolean, Number, Text, Registered, Object, Symbol as SymbolValue}
use Rattle.es_event.specs.declared.literal.Literal.TheVariants.{Undefined as NoLiteral, Boolean as BooleanLiteral, Number as NumberLiteral, Text as TextLiteral}
use Rattle.es_event.specs.declared.command.Command.TheVariants.{Let, Symbol, SymbolFor, Copy, Same, Say, WeakRef}
use Rattle.es_event.specs.declared.event.Refusal.TheVariants.{NotHeldWeakly}
use Rattle.es_event.specs.declared.event.Answer.TheVariants.{Nothing, Gives}
use Rattle.es_event.specs.declared.event.Event.TheVariants.{JobBegun, Did, Refused, JobEnded, Closed}
use Rattle.es_event.specs.declared.plan.AgentPlan.{AgentPlan}
use Rattle.es_event.specs.History.{History}
use Rattle.es_event.proofs.Examples.{plan_of}
use Rattle.es_laws.proofs.Letters.{b, c, f, g, k, n, r, s, t, w, x, z}
use Rattle.es_laws.proofs.Worked.{IsWorked}

-- A symbol outside the registry

abbrev pub plan_unregistered : AgentPlan
plan_unregistered = plan_of ((Symbol s ∷ Say s ∷ WeakRef w s ∷ []) ∷ [])

abbrev pub closed_unregistered : History
closed_unregistered =
    Closed
    ∷ JobEnded
    ∷ Did (WeakRef w s, SymbolValue 1 ∷ [], Gives (Object 2))
    ∷ Did (Say s, SymbolValue 1 ∷ [], Nothing)
    ∷ Did (Symbol s, [], Gives (SymbolValue 1))
    ∷ JobBegun 1 ∷ []

pub worked_unregistered : IsWorked [] plan_unregistered closed_unregistered (codes "agent a\nsay symbol 1\nend live 0 awaiting 0 unregistered 0 taken 0\n")
unfolding digits
worked_unregistered = record { whole = (search rules, search rules); report = refl }

-- A registered symbol

abbrev pub plan_registered : AgentPlan
plan_registered = plan_of ((SymbolFor f k ∷ Say f ∷ WeakRef w f ∷ []) ∷ [])

abbrev pub found_registered : History
found_registered =
    Did (SymbolFor f k, [], Gives (Registered k))
    ∷ JobBegun 1 ∷ []

abbrev pub closed_registered : History
closed_registered =
    Closed
    ∷ JobEnded
    ∷ Refused NotHeldWeakly
    ∷ Did (Say f, Registered k ∷ [], Nothing) ∷ found_registered

pub worked_registered : IsWorked [] plan_registered closed_registered (codes "agent a\nsay symbolfor \"k\"\nerror TypeError: cannot be held weakly\nend live 0 awaiting 0 unregistered 0 taken 0\n")
unfolding digits
worked_registered = record { whole = (search rules, search rules); report = refl }

-- Literals

abbrev pub plan_literals : AgentPlan
plan_literals = plan_of ((Let x (NumberLiteral (negsuc 9007199254740990)) ∷ Say x ∷ Let t (TextLiteral (codes "")) ∷ Say t ∷ Same b x t ∷ Say b ∷ []) ∷ [])

abbrev pub closed_literals : History
closed_literals =
    Closed
    ∷ JobEnded
    ∷ Did (Say b, Boolean false ∷ [], Nothing)
    ∷ Did (Same b x t, Number (negsuc 9007199254740990) ∷ Text (codes "") ∷ [], Gives (Boolean false))
    ∷ Did (Say t, Text (codes "") ∷ [], Nothing)
    ∷ Did (Let t (TextLiteral (codes "")), [], Gives (Text (codes "")))
    ∷ Did (Say x, Number (negsuc 9007199254740990) ∷ [], Nothing)
    ∷ Did (Let x (NumberLiteral (negsuc 9007199254740990)), [], Gives (Number (negsuc 9007199254740990)))
    ∷ JobBegun 1 ∷ []

pub worked_literals : IsWorked [] plan_literals closed_literals (codes "agent a\nsay -9007199254740991\nsay \"\"\nsay false\nend live 0 awaiting 0 unregistered 0 taken 0\n")
unfolding digits
worked_literals = record { whole = (search rules, search rules); report = refl }

-- The other literals

abbrev pub plan_others : AgentPlan
plan_others = plan_of ((Let b (BooleanLiteral true) ∷ Say b ∷ Let c (BooleanLiteral false) ∷ Say c ∷ Let n NoLiteral ∷ Say n ∷ Let x (NumberLiteral (pos 9007199254740991)) ∷ Say x ∷ Let z (NumberLiteral (pos 0)) ∷ Say z ∷ []) ∷ [])

abbrev pub closed_others : History
closed_others =
    Closed
    ∷ JobEnded
    ∷ Did (Say z, Number (pos 0) ∷ [], Nothing)
    ∷ Did (Let z (NumberLiteral (pos 0)), [], Gives (Number (pos 0)))
    ∷ Did (Say x, Number (pos 9007199254740991) ∷ [], Nothing)
    ∷ Did (Let x (NumberLiteral (pos 9007199254740991)), [], Gives (Number (pos 9007199254740991)))
    ∷ Did (Say n, Undefined ∷ [], Nothing)
    ∷ Did (Let n NoLiteral, [], Gives Undefined)
    ∷ Did (Say c, Boolean false ∷ [], Nothing)
    ∷ Did (Let c (BooleanLiteral false), [], Gives (Boolean false))
    ∷ Did (Say b, Boolean true ∷ [], Nothing)
    ∷ Did (Let b (BooleanLiteral true), [], Gives (Boolean true))
    ∷ JobBegun 1 ∷ []

pub worked_others : IsWorked [] plan_others closed_others (codes "agent a\nsay true\nsay false\nsay undefined\nsay 9007199254740991\nsay 0\nend live 0 awaiting 0 unregistered 0 taken 0\n")
unfolding digits
worked_others = record { whole = (search rules, search rules); report = refl }

-- Two lookups of one text give one symbol, which is not the text; two symbols outside the registry are two

abbrev pub plan_sameness : AgentPlan
plan_sameness = plan_of ((SymbolFor f k ∷ SymbolFor g k ∷ Same b f g ∷ Say b ∷ Let t (TextLiteral k) ∷ Same b f t ∷ Say b ∷ Symbol s ∷ Symbol r ∷ Same b s r ∷ Say b ∷ Copy r s ∷ Same b s r ∷ Say b ∷ []) ∷ [])

abbrev pub found_g : History
found_g =
    Did (SymbolFor g k, [], Gives (Registered k))
    ∷ Did (SymbolFor f k, [], Gives (Registered k))
    ∷ JobBegun 1 ∷ []

abbrev pub let_text : History
let_text =
    Did (Let t (TextLiteral k), [], Gives (Text k))
    ∷ Did (Say b, Boolean true ∷ [], Nothing)
    ∷ Did (Same b f g, Registered k ∷ Registered k ∷ [], Gives (Boolean true)) ∷ found_g

abbrev pub made_r : History
made_r =
    Did (Symbol r, [], Gives (SymbolValue 2))
    ∷ Did (Symbol s, [], Gives (SymbolValue 1))
    ∷ Did (Say b, Boolean false ∷ [], Nothing)
    ∷ Did (Same b f t, Registered k ∷ Text k ∷ [], Gives (Boolean false)) ∷ let_text

abbrev pub closed_sameness : History
closed_sameness =
    Closed
    ∷ JobEnded
    ∷ Did (Say b, Boolean true ∷ [], Nothing)
    ∷ Did (Same b s r, SymbolValue 1 ∷ SymbolValue 1 ∷ [], Gives (Boolean true))
    ∷ Did (Copy r s, SymbolValue 1 ∷ [], Gives (SymbolValue 1))
    ∷ Did (Say b, Boolean false ∷ [], Nothing)
    ∷ Did (Same b s r, SymbolValue 1 ∷ SymbolValue 2 ∷ [], Gives (Boolean false)) ∷ made_r

pub worked_sameness : IsWorked [] plan_sameness closed_sameness (codes "agent a\nsay true\nsay false\nsay false\nsay true\nend live 0 awaiting 0 unregistered 0 taken 0\n")
unfolding digits
worked_sameness = record { whole = (search rules, search rules); report = refl }
