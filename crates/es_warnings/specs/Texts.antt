-- To believe: how warnings are told.
use Rattle.std.specs.Prelude.{ℕ, List, [], ◌++◌, codes, decimal, flat_map, slice_get}
use Rattle.std.specs.Option.{option_map_or}
use Rattle.es_event.specs.declared.plan.Plan.{Plan}
use Rattle.es_warnings.specs.declared.mention.Place.{Place}
use Rattle.es_warnings.specs.declared.mention.Section.{Section}
use Rattle.es_warnings.specs.declared.mention.Section.TheVariants.{Job, Callback}
use Rattle.es_warnings.specs.declared.warning.Cause.{Cause}
use Rattle.es_warnings.specs.declared.warning.Cause.TheVariants.{Unassigned, AssignedLater, Unread, HeldTarget}
use Rattle.es_warnings.specs.declared.warning.Warning.{Warning}

abbrev pub callback_name : Plan → ℕ → ℕ → List ℕ
callback_name p agent k = option_map_or (λ a. option_map_or (λ c. c.name) (slice_get a.callbacks k) []) (slice_get p.agents agent) []

abbrev pub section_text : Plan → ℕ → Section → List ℕ
section_text p agent (Job j) = codes "/jobs/" ++ decimal j ++ codes "/run/"
section_text p agent (Callback k) = codes "/callbacks/" ++ callback_name p agent k ++ codes "/"

-- the JSON Pointer (RFC 6901) of the command
abbrev pub pointer_text : Plan → ℕ → Place → List ℕ
pointer_text p agent place = codes "/agents/" ++ decimal agent ++ section_text p agent place.section ++ decimal place.index

abbrev pub sentence_text : Cause → List ℕ → List ℕ
sentence_text Unassigned x = codes "nothing assigns " ++ x ++ codes ", so it is undefined; let assigns a text"
sentence_text AssignedLater x = x ++ codes " is read before anything assigns it, so it is undefined"
sentence_text Unread x = codes "nothing reads " ++ x
sentence_text HeldTarget x = codes "the held value is the target " ++ x ++ codes ", so this is refused"

abbrev pub warning_text : Plan → Warning → List ℕ
warning_text p w = codes "warning \"" ++ pointer_text p w.agent w.place ++ codes "\" " ++ sentence_text w.cause w.name ++ codes "\n"

abbrev pub warnings_text : Plan → List Warning → List ℕ
warnings_text p ws = flat_map (warning_text p) ws
