-- When a guest's device serves requests.
use Rattle.std.specs.Prelude.{Bool, true, false}
use Rattle.vb_run.specs.declared.pace.Pace.{Pace}
use Rattle.vb_run.specs.declared.pace.Pace.TheVariants.{Immediate, Deferred}

-- the device is paced: it visits the pages of a request one by one before it finishes the request
abbrev pub is_deferred : Pace → Bool
is_deferred Immediate = false
is_deferred Deferred = true
