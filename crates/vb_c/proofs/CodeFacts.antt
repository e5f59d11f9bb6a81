-- Codes, each both ways, and answers as plain data, worked out.
use Rattle.std.proofs.Common.{◌≡◌, refl, ℕ, [], ◌∷◌, map, Some, None, Ok, Err}
use Rattle.vb_status.specs.declared.bits.StatusFault.{StatusFault}
use Rattle.vb_status.specs.declared.bits.StatusFault.TheVariants.{ClearsBit, OutOfOrder, FeatureNotOffered}
use Rattle.vb_status.specs.declared.bits.StatusFault.TheVariants.{MustTellHostMissing, VersionMissing}
use Rattle.vb_core.specs.declared.kinds.Kind.TheVariants.{Inflate, Deflate, Statistics, Report, Hint}
use Rattle.vb_core.specs.declared.device.Denial.TheVariants.{NoQueue, Misplaced}
use Rattle.vb_core.specs.declared.saved.StateDenial.TheVariants.{BadLength as WrongLength, NotAState, OtherVersion, BadSum, Impossible}
use Rattle.vb_monitor.specs.declared.placing.RestoreDenial.TheVariants.{State, Elsewhere}
use Rattle.vb_c.specs.Codes.{kind_of_code, code_of_kind, code_in, number_in}
use Rattle.vb_c.specs.Marks.{marked_of}
use Rattle.vb_c.specs.{Saving.code_of_state, Places.code_of_restore}

-- an answer that has nothing but a denial
code_of_success : code_in (Ok tt) ≡ 0
code_of_success = refl

code_of_a_denial : code_in (Err Misplaced) ≡ 6
code_of_a_denial = refl

-- ---- kinds

kinds : map kind_of_code (0 ∷ 1 ∷ 2 ∷ 3 ∷ 4 ∷ 5 ∷ 6 ∷ []) ≡
    Some Inflate ∷ Some Deflate ∷ Some Statistics ∷ Some Report ∷ Some Hint ∷ None ∷ None ∷ []
kinds = refl

codes_of_kinds : map code_of_kind (Some Inflate
    ∷ Some Deflate ∷ Some Statistics ∷ Some Report ∷ Some Hint ∷ None ∷ []) ≡ 0 ∷ 1 ∷ 2 ∷ 3 ∷ 4 ∷ 5 ∷ []
codes_of_kinds = refl

-- ---- registers, states, targets

abbrev number_of : StatusFault → ℕ
number_of fault = number_in (Err fault)

numbers : map number_of (ClearsBit ∷ OutOfOrder ∷ FeatureNotOffered ∷ MustTellHostMissing ∷ VersionMissing ∷ []) ≡
    1 ∷ 2 ∷ 3 ∷ 4 ∷ 5 ∷ []
numbers = refl

number_of_success : number_in (Ok tt) ≡ 0
number_of_success = refl

states : map code_of_state (WrongLength ∷ NotAState ∷ OtherVersion ∷ BadSum ∷ Impossible ∷ []) ≡
    9 ∷ 10 ∷ 11 ∷ 12 ∷ 13 ∷ []
states = refl

restored_so : code_of_restore (Ok tt) ≡ 0
restored_so = refl

restored_from_none : code_of_restore (Err (State BadSum)) ≡ 12
restored_from_none = refl

restored_elsewhere : code_of_restore (Err Elsewhere) ≡ 6
restored_elsewhere = refl

-- ---- answers

marked : marked_of (Ok 3) ≡ record { code = 0; pages = 3 }
marked = refl

none_marked : marked_of (Err NoQueue) ≡ record { code = 5; pages = 0 }
none_marked = refl
