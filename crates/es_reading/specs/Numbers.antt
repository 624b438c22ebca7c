-- To believe: the numbers of the faults.
use Rattle.std.specs.Prelude.{ℕ}
use Rattle.es_reading.specs.declared.fault.FaultCode.{FaultCode}
use Rattle.es_reading.specs.declared.fault.FaultCode.TheVariants.{NotJson, Shape, Version, AgentCount, Name, Unknown, Operands, Profile, Collection, Limit}

abbrev pub number_of : FaultCode → ℕ
number_of NotJson = 1
number_of Shape = 2
number_of Version = 3
number_of AgentCount = 4
number_of Name = 5
number_of Unknown = 6
number_of Operands = 7
number_of Profile = 8
number_of Collection = 9
number_of Limit = 10
