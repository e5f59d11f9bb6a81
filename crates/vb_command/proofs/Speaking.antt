-- A text that says something begins with a host.
use Rattle.std.proofs.Common.{◌≡◌, ℕ, List, Some, Ok, true}
use Rattle.vb_script.specs.Texts.{Said, begins_with_host, events, script_of}
use Rattle.vb_script.proofs.Speaking.{speaks as speaks_in}

pub speaks : (text : List ℕ) (said : Said) → script_of text ≡ Ok (Some said)
    → begins_with_host text ≡ true
unfolding script_of
speaks text said e = speaks_in events text said e
