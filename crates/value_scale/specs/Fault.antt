-- What the faults of a scale say.
use Rattle.value_scale.specs.declared.fault.ScaleFault.{ScaleFault}
use Rattle.value_scale.specs.declared.fault.ScaleFault.TheVariants as fault

-- of a formula a fault says that it is too wide, or nothing as memory is wanted
abbrev pub FaultSays : ScaleFault → Type 0 → Type 0
FaultSays fault.TooWide wide = wide
FaultSays fault.NoMemory wide = Unit {0}
