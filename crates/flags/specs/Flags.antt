-- A hasher's flags (docs/BEHAVIOUR.md).
use Rattle.std.specs.Prelude.{Bool, true, false, ◌&&◌}
use Rattle.word.specs.Choice.{pick}
use Rattle.flags.specs.declared.Flags.{Flags}
use Rattle.flags.specs.declared.Masks.{Masks}
use Rattle.flags.specs.declared.Masks.TheVariants.{All, Lent, Conditions}

-- detection, mitigation and masks on, reduced-round mode off
abbrev pub defaults : Flags
defaults = record { detect = true; mitigate = true; masks = Lent; reduced = false }

-- masks on is one lent mask a block, masks off every vector for every block
abbrev pub masks_of : Bool → Masks
masks_of on = pick on Lent All

-- conditions on is the vectors that survive them, conditions off every vector for every block
abbrev pub conditions_of : Bool → Masks
conditions_of on = pick on Conditions All

-- the flags with detection set
abbrev pub with_detect : Flags → Bool → Flags
with_detect f on = record { detect = on; mitigate = f.mitigate; masks = f.masks; reduced = f.reduced }

-- with mitigation set
abbrev pub with_mitigate : Flags → Bool → Flags
with_mitigate f on = record { detect = f.detect; mitigate = on; masks = f.masks; reduced = f.reduced }

-- with the masks setting
abbrev pub with_masks : Flags → Masks → Flags
with_masks f masks = record { detect = f.detect; mitigate = f.mitigate; masks = masks; reduced = f.reduced }

-- with reduced-round mode set
abbrev pub with_reduced : Flags → Bool → Flags
with_reduced f on = record { detect = f.detect; mitigate = f.mitigate; masks = f.masks; reduced = on }

-- whether the masks setting asks for one mask a block
abbrev pub is_lent : Masks → Bool
is_lent All = false
is_lent Lent = true
is_lent Conditions = false

-- whether it asks for conditions
abbrev pub is_conditions : Masks → Bool
is_conditions All = false
is_conditions Lent = false
is_conditions Conditions = true

-- whether the flags ask for lent masks
abbrev pub uses_masks : Flags → Bool
uses_masks f = f.detect && is_lent f.masks

-- whether they ask for lent conditions
abbrev pub uses_conditions : Flags → Bool
uses_conditions f = f.detect && is_conditions f.masks
