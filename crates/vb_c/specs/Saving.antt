-- What the exports that save and restore a device answer.
use Rattle.std.specs.Prelude.{◌≡◌, ℕ, List, ◌++◌, drop, length, Some, None, Ok, Err}
use Rattle.vb_core.specs.declared.device.Device.{Device}
use Rattle.vb_core.specs.declared.held.Held.{Held}
use Rattle.vb_core.specs.declared.saved.Saved.{Saved}
use Rattle.vb_core.specs.declared.saved.StateDenial.{StateDenial}
use Rattle.vb_core.specs.declared.saved.StateDenial.TheVariants.{BadLength, NotAState}
use Rattle.vb_core.specs.declared.saved.StateDenial.TheVariants.{OtherVersion, BadSum, Impossible}
use Rattle.vb_core.specs.declared.format.TheConstants.{SAVED_LENGTH}
use Rattle.vb_core.specs.Format.{FitsSaved, saved_bytes}
use Rattle.vb_core.specs.Saved.{save_denial, restored}

abbrev pub code_of_state : StateDenial → ℕ
code_of_state BadLength = 9
code_of_state NotAState = 10
code_of_state OtherVersion = 11
code_of_state BadSum = 12
code_of_state Impossible = 13

-- The bytes of a saved device are put into the front, or nothing is.
pub record Saves (s : Saved) (old new : List ℕ) (result : ℕ) : Type 0 where
  pub denied : (why : StateDenial) → save_denial s (length old) ≡ Some why →
      (result ≡ code_of_state why) × (new ≡ old)
  pub saved : save_denial s (length old) ≡ None →
      (result ≡ 0) × FitsSaved s × (new ≡ saved_bytes s ++ drop SAVED_LENGTH old)

-- The device is that of the bytes, or stays as it is.
pub record Restores (bytes : List ℕ) (d1 d2 : Device) (held1 held2 : Held) (result : ℕ) : Type 0
  where
    pub denied : (why : StateDenial) → restored bytes ≡ Err why →
        (result ≡ code_of_state why) × (d2 ≡ d1) × (held2 ≡ held1)
    pub restored_so : (s : Saved) → restored bytes ≡ Ok s →
        (result ≡ 0) × (d2 ≡ s.device) × (held2 ≡ s.held)
