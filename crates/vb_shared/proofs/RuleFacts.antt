-- Worked facts of the rule over the words, and of the three kinds of step.
use Rattle.{std.proofs.Common.{◌≡◌, ◌≢◌, ℕ}, vb_device.specs.Own.has, vb_shared.specs.Rule.view_of}
use Rattle.std.proofs.Common.{◌||◌, Bool, true, false, List, [], ◌∷◌, map, refl, ap, arith, ne_eqb}
use Rattle.vb_shared.specs.{Rule.{holding, pass, count, count_all, IsTied, AllTied}, declared.rule.Size.Size}
use Rattle.vb_shared.proofs.Shares.{in_words}
use Rattle.vb_shared.specs.Rule.{IsKept, Kept, FrameRule, TryClaim, PutBack, Look, word_after, held_after}

-- three frames and two guests: a frame that is free, one of the first guest, one of the second
abbrev sizes : Size
sizes = record { frames = 3; guests = 2 }

abbrev words : List ℕ
words = 0 ∷ 1 ∷ 2 ∷ []

-- ---- how many of the passes have a tag

counted : count 1 (holding 1 [] ∷ holding 0 (1 ∷ []) ∷ holding 1 (5 ∷ []) ∷ [])
    ∷ count 5 (holding 1 [] ∷ holding 0 (1 ∷ []) ∷ holding 1 (5 ∷ []) ∷ [])
    ∷ count_all 1 (view_of (holding 1 [] ∷ holding 0 [] ∷ []) ∷ view_of [] ∷ pass 1 [] ∷ []) ∷ []
    ≡ 2 ∷ 0 ∷ 2 ∷ []
counted = refl

-- ---- a pass and the words: a word is tag + 1 exactly where the pass holds its frame

only : (a k : ℕ) → a ≢ k → has (a ∷ []) k ≡ false
only a k other = ap (λ (b : Bool). b || false) (ne_eqb a k other)

first_tied : IsTied 2 words (holding 0 (1 ∷ []))
first_tied = grind (arith, only)

second_tied : IsTied 2 words (holding 1 (2 ∷ []))
second_tied = grind (arith, only)

both_tied : AllTied 2 words (holding 0 (1 ∷ []) ∷ holding 1 (2 ∷ []) ∷ [])
both_tied = (first_tied, (second_tied, tt))

tag_of_nobody : IsTied 2 words (holding 2 []) → ⊥
tag_of_nobody tied = omega (arith, tied.0)

holds_anothers : IsTied 2 words (holding 0 (1 ∷ 2 ∷ [])) → ⊥
holds_anothers tied = let wrong : false ≡ true = tied.1 2 in cc

holds_a_free_one : IsTied 2 words (holding 0 (0 ∷ 1 ∷ [])) → ⊥
holds_a_free_one tied = let wrong : false ≡ true = tied.1 0 in cc

lacks_its_own : IsTied 2 words (holding 0 []) → ⊥
lacks_its_own tied = let wrong : true ≡ false = tied.1 1 in cc

-- ---- all passes and the words

kept : IsKept sizes words (pass 0 (1 ∷ []) ∷ pass 1 (2 ∷ []) ∷ [])
kept = grind (arith, first_tied, second_tied, ne_eqb)

a_word_too_few : IsKept (record { frames = 4; guests = 2 }) words [] → ⊥
a_word_too_few is = omega (arith, is.wide)

a_word_of_no_guest : IsKept (record { frames = 3; guests = 1 }) words [] → ⊥
a_word_of_no_guest is = omega (arith, is.small 2)

a_tag_twice : IsKept sizes (0 ∷ 0 ∷ 0 ∷ []) (pass 0 [] ∷ pass 0 [] ∷ []) → ⊥
a_tag_twice is = omega (arith, is.apart 0)

a_pass_without_its_frame : IsKept sizes words (pass 1 (2 ∷ []) ∷ pass 0 [] ∷ []) → ⊥
a_pass_without_its_frame is = lacks_its_own (is.tied 1 (pass 0 []) refl).0

-- of a seat that represents two passes both are
second_of_a_seat : IsKept sizes words (view_of (holding 1 (2 ∷ []) ∷ holding 0 [] ∷ []) ∷ []) → ⊥
second_of_a_seat is =
    lacks_its_own (is.tied 0 (view_of (holding 1 (2 ∷ []) ∷ holding 0 [] ∷ [])) refl).1.0

-- of a whole table these are its own words and seats
kept_of_a_table : (Kept sizes (record { words = 0 ∷ 1 ∷ []; homes = []; views = [] }) → ⊥)
    × (Kept sizes (record { words = words; homes = []; views = pass 2 [] ∷ [] }) → ⊥)
kept_of_a_table = (λ is. omega (arith, is.wide), λ is. tag_of_nobody (is.tied 0 (pass 2 []) refl).0)

-- ---- the same of passes that are handed out

rule : FrameRule sizes words (pass 0 (1 ∷ []) ∷ pass 1 (2 ∷ []) ∷ [])
rule = in_words sizes words (pass 0 (1 ∷ []) ∷ pass 1 (2 ∷ []) ∷ []) kept

rule_of_a_tag_twice : FrameRule sizes (0 ∷ 0 ∷ 0 ∷ []) (pass 0 [] ∷ pass 0 [] ∷ []) → ⊥
rule_of_a_tag_twice is = is.tags 0 1 0 0 [] [] (λ e. omega (arith, e)) refl refl refl

rule_of_a_frame_not_held : FrameRule sizes words (pass 0 [] ∷ []) → ⊥
rule_of_a_frame_not_held is = let wrong : false ≡ true = (is.holder 0 0 1 [] refl).0 refl in cc

rule_of_a_frame_not_its_own : FrameRule sizes words (pass 0 (0 ∷ 1 ∷ []) ∷ []) → ⊥
rule_of_a_frame_not_its_own is = omega (arith, (is.holder 0 0 0 (0 ∷ 1 ∷ []) refl).1 refl)

rule_of_a_word_of_no_guest : FrameRule (record { frames = 3; guests = 1 }) words [] → ⊥
rule_of_a_word_of_no_guest is = omega (arith, is.guests 2)

rule_of_a_frame_twice : FrameRule sizes words (pass 0 (1 ∷ []) ∷ pass 1 (1 ∷ []) ∷ []) → ⊥
rule_of_a_frame_twice is =
    let wrong : true ≡ false =
    is.frames 0 1 0 1 1 (1 ∷ []) (1 ∷ []) (λ e. omega (arith, e)) refl refl refl in cc

-- ---- what a step of the pass with tag 4 makes of a word: of a free one, its own, another's

words_tried : map (word_after TryClaim 4) (0 ∷ 5 ∷ 7 ∷ []) ≡ 5 ∷ 5 ∷ 7 ∷ []
words_tried = refl

words_put_back : map (word_after PutBack 4) (0 ∷ 5 ∷ 7 ∷ []) ≡ 0 ∷ 0 ∷ 7 ∷ []
words_put_back = refl

words_looked_at : map (word_after Look 4) (0 ∷ 5 ∷ 7 ∷ []) ≡ 0 ∷ 5 ∷ 7 ∷ []
words_looked_at = refl

-- and which frames it holds then, that of the word being 9
held_tried : map (λ word. held_after TryClaim 4 word 9 (3 ∷ [])) (0 ∷ 5 ∷ 7 ∷ [])
    ≡ (9 ∷ 3 ∷ []) ∷ (3 ∷ []) ∷ (3 ∷ []) ∷ []
held_tried = refl

held_put_back : map (λ word. held_after PutBack 4 word 9 (3 ∷ 9 ∷ [])) (0 ∷ 5 ∷ 7 ∷ [])
    ≡ (3 ∷ 9 ∷ []) ∷ (3 ∷ []) ∷ (3 ∷ 9 ∷ []) ∷ []
held_put_back = refl

held_looked_at : map (λ word. held_after Look 4 word 9 (3 ∷ 9 ∷ [])) (0 ∷ 5 ∷ 7 ∷ [])
    ≡ (3 ∷ 9 ∷ []) ∷ (3 ∷ 9 ∷ []) ∷ (3 ∷ 9 ∷ []) ∷ []
held_looked_at = refl
