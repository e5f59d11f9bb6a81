-- Frames that are out, and answers to claims, worked out.
use Rattle.std.proofs.Common.{◌≡◌, ℕ, zero, suc, ◌<◌, true, false, List, [], ◌∷◌, map, refl, arith}
use Rattle.std.specs.Prelude.{Bool, Ok, Err}
use Rattle.vb_model.specs.declared.calls.Claim.TheVariants.{Gave, GaveNoFrame, GaveNoMemory}
use Rattle.vb_frames.specs.declared.keeper.Refused.TheVariants.{NoFrame, Memory}
use Rattle.vb_frames.specs.Out.{is_out, IsFree, claim_in, after_claims, AllAnswered, TableAnswers}

-- of three frames the first is out
abbrev out : List Bool
out = true ∷ false ∷ false ∷ []

outs : map (is_out out) (0 ∷ 1 ∷ 2 ∷ 3 ∷ []) ≡ true ∷ false ∷ false ∷ false ∷ []
outs = refl

-- a frame past the end is neither out nor free
none_past_the_end : IsFree out 3 → ⊥
none_past_the_end free = omega (arith, free.within)

answers : claim_in (Ok (record { number = 7; bytes = [] })) ∷ claim_in (Err NoFrame)
    ∷ claim_in (Err Memory) ∷ [] ≡ Gave 7 ∷ GaveNoFrame ∷ GaveNoMemory ∷ []
answers = refl

after : after_claims out (Gave 2 ∷ GaveNoFrame ∷ GaveNoMemory ∷ []) ≡ true ∷ false ∷ true ∷ []
after = refl

-- ---- what a table answers

second_is_free : IsFree out 1
second_is_free = record { within = omega arith; free = refl }

least_is_given : TableAnswers out (Gave 1)
least_is_given = (second_is_free, below) where
  below : (m : ℕ) → m < 1 → is_out out m ≡ true
  below zero lt = refl
  below (suc m) lt = absurd (omega (arith, lt))

another_is_not : TableAnswers out (Gave 2) → ⊥
another_is_not answer = (let wrong : false ≡ true = answer.1 1 (omega arith) in absurd cc)

one_that_is_out_is_not : TableAnswers out (Gave 0) → ⊥
one_that_is_out_is_not answer = (let wrong : true ≡ false = answer.0.free in absurd cc)

while_one_is_free : TableAnswers out GaveNoFrame → ⊥
while_one_is_free all = (let wrong : false ≡ true = all 1 (omega arith) in absurd cc)

memory_where_one_is_free : TableAnswers out GaveNoMemory
memory_where_one_is_free = (1, second_is_free)

memory_where_none_is : TableAnswers (true ∷ []) GaveNoMemory → ⊥
memory_where_none_is (zero, free) = (let wrong : true ≡ false = free.free in absurd cc)
memory_where_none_is (suc n, free) = omega (arith, free.within)

-- ---- lists of claims

gives_one_after_the_other : AllAnswered TableAnswers out (Gave 1 ∷ GaveNoMemory ∷ [])
gives_one_after_the_other =
    (least_is_given, second_is_free, ((2, record { within = omega arith; free = refl }), refl))

gives_one_twice : AllAnswered TableAnswers out (Gave 1 ∷ Gave 1 ∷ []) → ⊥
gives_one_twice answered = (let wrong : true ≡ false = answered.2.0.0.free in absurd cc)

goes_on_after_a_refusal : AllAnswered TableAnswers out (GaveNoMemory ∷ Gave 1 ∷ []) → ⊥
goes_on_after_a_refusal answered = (let wrong : Gave 1 ∷ [] ≡ [] = answered.1 in absurd cc)
