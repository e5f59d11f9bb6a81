use Rattle.{std.proofs.Common.{rules, refl}, vb_script.proofs.WordLemmas.{bytes_read, no_bytes}}
use Rattle.vb_script.proofs.Hex.{decoded, decoded_err, decoded_ok, not_byte_word}
use Rattle.vb_script.proofs.values.undecoded.Goals as goal

pub returns-in-Ok-clause-memory : goal.returns-in-Ok-clause-memory
returns-in-Ok-clause-memory c = λ _.
    let is = decoded c.args.word.now _ _ _ c.decode_to_slice.ensures.value (search rules) in
    rw (bytes_read c.args.word.now _ c.requires.some c.requires.few
    (decoded_ok _ _ _ is c.in-Ok.is)) refl

pub returns-in-Err-clause-bad : goal.returns-in-Err-clause-bad
returns-in-Err-clause-bad c = λ _ shown.
    let is = decoded c.args.word.now _ _ _ c.decode_to_slice.ensures.value (search rules) in
    absurd (not_byte_word c.args.word.now _ (decoded_err _ _ _ _ is c.in-Err.is) shown)

pub returns-in-Err-clause-none : goal.returns-in-Err-clause-none
returns-in-Err-clause-none c = λ _.
    let is = decoded c.args.word.now _ _ _ c.decode_to_slice.ensures.value (search rules) in
    no_bytes c.args.word.now _ (decoded_err _ _ _ _ is c.in-Err.is)
