-- What a line of words says.
use Rattle.std.specs.Prelude.{ℕ, ◌&&◌, nat_le, Bool, true, false, if◌then◌else◌, List, [], ◌∷◌}
use Rattle.std.specs.Prelude.{Option, Some, None, Result, Ok, Err, codes}
use Rattle.std.specs.Option.{option_and_then}
use Rattle.std.specs.Str.{bytes_eq}
use Rattle.vb_virtio.specs.declared.limits.TheConstants.{MAX_FRAMES}
use Rattle.vb_script.specs.declared.lines.LineFault.{LineFault}
use Rattle.vb_script.specs.declared.lines.LineFault.TheVariants.{Bad}
use Rattle.vb_script.specs.declared.lines.Pace.{Pace}
use Rattle.vb_script.specs.declared.lines.Pace.TheVariants.{Immediate, Paced, Monitor}
use Rattle.vb_script.specs.Names.{pace_of}
use Rattle.vb_script.specs.Words.{only_word, only_number}

-- whether such a device visits the pages of a request one by one
abbrev pub is_paced : Pace → Bool
is_paced Immediate = false
is_paced Paced = true
is_paced Monitor = false

abbrev pub in_range : ℕ → Option ℕ
in_range frames = if nat_le 1 frames && nat_le frames MAX_FRAMES then Some frames else None

-- host FRAMES
abbrev pub host_of : List (List ℕ) → Option ℕ
host_of [] = None
host_of (word ∷ words) =
    if bytes_eq word (codes "host") then option_and_then in_range (only_number words) else None

-- a line that begins with another word is about no spare device
abbrev pub a_pace : Option Pace → Result (Option Pace) LineFault
a_pace None = Err Bad
a_pace (Some pace) = Ok (Some pace)

-- spare PACE
abbrev pub spare_of : List (List ℕ) → Result (Option Pace) LineFault
spare_of [] = Err Bad
spare_of (word ∷ words) =
    if bytes_eq word (codes "spare") then a_pace (option_and_then pace_of (only_word words))
    else Ok None
