-- Replies, frames that move, and requests that are out, worked out.
use Rattle.std.proofs.Common.{◌≡◌, ℕ, ◌+◌, true, false, List, [], ◌∷◌, map, refl, arith}
use Rattle.std.specs.Prelude.{Bool, Some, None, Ok, Err, length}
use Rattle.vb_model.specs.declared.{calls.Claim.{Claim}, calls.Call.TheVariants.Work}
use Rattle.vb_virtio.specs.Tests.{one_if}
use Rattle.vb_virtio.specs.declared.refusals.Refusal.TheVariants.{NotReady, NoMemory}
use Rattle.vb_model.specs.declared.replies.Reply.{Reply}
use Rattle.vb_model.specs.Rogue.{GuestStep}
use Rattle.vb_model.specs.declared.calls.Claim.TheVariants.{Gave, GaveNoFrame, GaveNoMemory}
use Rattle.vb_model.specs.declared.replies.Reply.TheVariants.{Ready, Page, ReadBytes, Posted, Filled, NotUsed}
use Rattle.vb_model.specs.declared.replies.Reply.TheVariants.{Reaped, Taken, Empty, Worked, Idle, Finished}
use Rattle.vb_model.specs.declared.replies.Reply.TheVariants.{Swept, Asked, Done, Pages, Refused, Statistics}
use Rattle.vb_model.specs.{Guest.{Guest, fresh}, Requests.{NoBuffer, BufferPosted, BufferTaken, BufferDone}}
use Rattle.vb_frames.specs.Out.{TableAnswers, AllAnswered, is_out}
use Rattle.vb_guest.specs.Buffer.{posted_heads, taken_heads, used_heads, taken_requests}
use Rattle.vb_guest.specs.Replies.{ready_reply, bytes_reply, taken_reply, worked_reply, finished_reply}
use Rattle.vb_guest.specs.Replies.{swept_reply, page_reply, posted_reply, reaped_reply, filled_reply}
use Rattle.vb_guest.specs.Replies.{asked_reply, done_reply, runs_reply, statistics_reply}
use Rattle.vb_guest.specs.Steps.{backing_count, AreOut, StepsWithKeeper}
use Rattle.vb_guest.specs.Supply.{Supply, is_used, Moves, nothing, AnswersTo, AreClaimed, AreLoose}

-- ---- replies

replies : ready_reply {T = ℕ} (Ok 0) ∷ bytes_reply (Ok (5 ∷ [])) ∷ taken_reply (Ok None) ∷ taken_reply (Ok (Some 3))
    ∷ worked_reply (Ok None) ∷ worked_reply (Ok (Some (record { page = 9; freed = true })))
    ∷ finished_reply (Ok 3) ∷ swept_reply (Ok false) ∷ page_reply (Ok 16)
    ∷ posted_reply (Ok (record { head = 2; pages = 5 })) ∷ reaped_reply (Ok None)
    ∷ reaped_reply (Ok (Some (record { head = 2; pages = 5 }))) ∷ filled_reply (Ok true)
    ∷ filled_reply (Ok false) ∷ asked_reply {T = ℕ} (Ok 0) ∷ done_reply {T = ℕ} (Ok 0)
    ∷ runs_reply {E = ℕ} (Ok []) ∷ statistics_reply (record { free = Some 4; total = None }) ∷ []
    ≡ Ready ∷ ReadBytes (5 ∷ []) ∷ Empty ∷ Taken 3 ∷ Idle ∷ Worked 9 true ∷ Finished 3 ∷ Swept false
    ∷ Page 16 ∷ Posted 2 5 ∷ NotUsed ∷ Reaped 2 5 ∷ Filled ∷ NotUsed ∷ Asked ∷ Done ∷ Pages []
    ∷ Statistics (record { free = Some 4; total = None }) ∷ []
replies = refl

refusals : ready_reply {T = ℕ} (Err NotReady) ∷ taken_reply (Err NotReady) ∷ worked_reply (Err NotReady)
    ∷ filled_reply (Err NotReady) ∷ runs_reply {E = ℕ} (Err 0) ∷ []
    ≡ Refused NotReady ∷ Refused NotReady ∷ Refused NotReady ∷ Refused NotReady ∷ Refused NoMemory ∷ []
refusals = refl

-- ---- the statistics buffer is posted, taken or done, and is in one list alone

heads : map posted_heads (NoBuffer ∷ BufferPosted (record { free = 1; total = 2 })
    ∷ BufferTaken (record { free = 1; total = 2 }) ∷ BufferDone (record { free = 1; total = 2 }) ∷ [])
    ≡ [] ∷ (0 ∷ []) ∷ [] ∷ [] ∷ []
heads = refl

others : taken_heads (BufferTaken (record { free = 1; total = 2 })) ∷ taken_heads NoBuffer
    ∷ used_heads (BufferDone (record { free = 1; total = 2 })) ∷ used_heads NoBuffer ∷ []
    ≡ (0 ∷ []) ∷ [] ∷ (0 ∷ []) ∷ [] ∷ []
others = refl

remembered : taken_requests (BufferTaken (record { free = 1; total = 2 })) ∷ taken_requests NoBuffer ∷ []
    ≡ (record { head = 0; pages = []; visited = 0 } ∷ []) ∷ [] ∷ []
remembered = refl

-- ---- frames: the keeper's 0 is out; where a device keeps its own, those count

abbrev asks : Supply
asks = record { keeps = false; own = []; out = true ∷ false ∷ [] }

abbrev keeps : Supply
keeps = record { keeps = true; own = 1 ∷ []; out = true ∷ false ∷ [] }

used : map (is_used asks) (0 ∷ 1 ∷ []) ∷ map (is_used keeps) (0 ∷ 1 ∷ []) ∷ []
    ≡ (true ∷ false ∷ []) ∷ (false ∷ true ∷ []) ∷ []
used = refl

-- a frame that goes out is gained, and none that isn't
no_moves : (Moves asks (record asks { out = true ∷ true ∷ [] }) nothing nothing → ⊥)
    × (Moves asks (record asks { out = false ∷ false ∷ [] }) nothing nothing → ⊥)
    × (Moves keeps (record keeps { out = [] }) nothing nothing → [] ≡ keeps.out)
no_moves = (
  λ moves. omega (arith, moves.balance 1),
  λ moves. omega (arith, moves.balance 0),
  λ moves. moves.untouched refl,
)

given_twice : AnswersTo TableAnswers (Gave 0) (true ∷ false ∷ []) (true ∷ false ∷ []) → ⊥
given_twice answers = (let wrong : true ≡ false = answers.1.free in absurd cc)

none_given_for_no_memory : AnswersTo TableAnswers GaveNoMemory (true ∷ false ∷ []) (true ∷ true ∷ []) → ⊥
none_given_for_no_memory answers = (let wrong : true ∷ true ∷ [] ≡ true ∷ false ∷ [] = answers.1 in absurd cc)

refusal_is_the_last : (claims : List Claim)
    → (AreClaimed TableAnswers asks (GaveNoFrame ∷ claims) → claims ≡ [])
    × (AreClaimed TableAnswers asks (GaveNoMemory ∷ claims) → claims ≡ [])
refusal_is_the_last claims = (λ are. are.2, λ are. are.2)

not_loose : (AreLoose (1 ∷ []) asks → ⊥) × (AreLoose (0 ∷ 0 ∷ []) asks → ⊥)
not_loose = (λ loose. omega (arith, loose 1), λ loose. omega (arith, loose 0))

-- ---- frames that back pages

abbrev guest : Guest
guest = record (fresh (record { pages = 4; queue_size = 8; processors = 1; paced = false }) 0) {
  frames = None ∷ Some 5 ∷ None ∷ Some 6 ∷ [];
}

counts : map (λ n. backing_count n guest) (4 ∷ 5 ∷ 6 ∷ []) ≡ 0 ∷ 1 ∷ 1 ∷ []
counts = refl

not_out : (AreOut (record guest { frames = Some 0 ∷ Some 0 ∷ [] }) (true ∷ []) → ⊥)
    × (AreOut guest (true ∷ []) → ⊥)
not_out = (λ out. omega (arith, out 0), λ out. omega (arith, out 5))

-- ---- a step over a keeper: what was claimed, what is afterwards, and the frames that are out

steps : (New : Guest → Type 0) (old new : List Bool) (reply : Reply)
    → StepsWithKeeper New TableAnswers old new guest Work reply
    → (claims : List Claim) × (g : Guest) × New g × GuestStep guest Work claims reply g
    × AllAnswered TableAnswers old claims
    × ((n : ℕ) → one_if (is_out new n) + backing_count n guest
    ≡ one_if (is_out old n) + backing_count n g) × (length new ≡ length old)
steps New old new reply by =
    (by.claims, by.new, by.stands, by.step, by.answered, by.balance, by.count)
