use Rattle.std.proofs.Common.{◌≡◌, ◌==◌, Bool, true, false, Some, None, not, is_some, refl, sym}
use Rattle.std.proofs.Common.{◌∙◌, List, Option, Bor, ℕ}
use Rattle.vb_script.{specs.Words.{is_empty, words_left}, proofs.Cuts.some_part}
use Rattle.vb_script.proofs.words.Words.is_at_end.Goals as goal

none_left : (rest : Option (Bor (List ℕ))) → not (is_some rest) ≡ is_empty (words_left rest)
none_left None = refl
none_left (Some text) = sym (some_part (λ byte. byte == 32) text.now)

turned : (some none : Bool) → some ≡ not none → none ≡ not some
turned true true e = cc
turned true false e = refl
turned false true e = refl
turned false false e = cc

pub returns : goal.returns
returns c = turned _ _ c.is_none.ensures ∙ none_left c.args.self.now.rest
