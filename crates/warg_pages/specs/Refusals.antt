-- Why a way through pages is refused.
use Rattle.warg_pages.specs.declared.error.WayError.{WayError}
use Rattle.warg_pages.specs.declared.error.WayError.TheVariants as way
use Rattle.warg_pages.specs.declared.error.ProveError.{ProveError}
use Rattle.warg_pages.specs.declared.error.ProveError.TheVariants.{Pages, Way}

-- A refusal of memory, or, where something is false, a fault of the pages.
abbrev pub IsMemoryUnless : Type 0 → WayError → Type 0
IsMemoryUnless fault way.Memory = Unit {0}
IsMemoryUnless fault _ = fault

-- A refusal of the source or of memory, or, where something is false, a fault of the pages.
abbrev pub IsOfSourceUnless : {E : Type 0} → Type 0 → ProveError E → Type 0
IsOfSourceUnless fault (Pages e) = Unit {0}
IsOfSourceUnless fault (Way e) = IsMemoryUnless fault e
