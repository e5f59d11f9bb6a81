-- A text that says something begins with a host, in each language of scripts.
use Rattle.std.proofs.Common.{◌≡◌, ℕ, List, [], ◌∷◌, Option, Some, None, Ok, is_some, true, refl}
use Rattle.vb_script.specs.Texts.{Language, Told, behind_host, begins_with_host, is_host_first}
use Rattle.vb_script.{specs.Lines.host_of, specs.Texts.{lines_of, numbered, script_with, told_in}}
use Rattle.vb_script.specs.Words.{words_of}

pub speaks : {Item : Type 0} → (language : Language Item) (text : List ℕ) (told : Told Item)
    → told_in language text ≡ Ok (Some told) → begins_with_host text ≡ true
unfolding told_in begins_with_host
speaks language text told e = at (numbered 0 (lines_of text)) e where
  behind : (number : ℕ) (host : Option ℕ) (lines : List (ℕ × List ℕ))
      → behind_host language number host lines ≡ Ok (Some told) → is_some host ≡ true
  behind number None lines e = cc
  behind number (Some frames) lines e = refl

  at : (lines : List (ℕ × List ℕ)) → script_with language lines ≡ Ok (Some told)
      → is_host_first lines ≡ true
  at [] e = cc
  at (line ∷ lines) e = behind line.0 (host_of (words_of line.1)) lines e
