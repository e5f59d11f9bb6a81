-- The text of each reply and of each refusal, worked out.
use Rattle.std.proofs.Common.{◌≡◌, true, false, [], ◌∷◌, Some, None, codes, refl, map}
use Rattle.vb_virtio.specs.declared.refusals.Refusal.TheVariants.{NoGuest, BadConfig, TooMany}
use Rattle.vb_virtio.specs.declared.refusals.Refusal.TheVariants.{NoDevice, BadOrder, BadCpu}
use Rattle.vb_virtio.specs.declared.refusals.Refusal.TheVariants.{NoPages, NotHeld, NotReady}
use Rattle.vb_virtio.specs.declared.refusals.Refusal.TheVariants.{QueueFull, DeflatePending}
use Rattle.vb_virtio.specs.declared.refusals.Refusal.TheVariants.{Nothing, RingBroken, NoFeature}
use Rattle.vb_virtio.specs.declared.refusals.Refusal.TheVariants.{AlreadyUp, FeatureNotOffered}
use Rattle.vb_virtio.specs.declared.refusals.Refusal.TheVariants.{VersionMissing, Short, ClearsBit}
use Rattle.vb_virtio.specs.declared.refusals.Refusal.TheVariants.{OutOfOrder, NoQueue, NeedsReset}
use Rattle.vb_virtio.specs.declared.refusals.Refusal.TheVariants.{Busy, Broken, NotTaken, NotWorked}
use Rattle.vb_virtio.specs.declared.refusals.Refusal.TheVariants.{NotBallooned, OutOfRam, NoFrame}
use Rattle.vb_virtio.specs.declared.refusals.Refusal.TheVariants.{NoMemory}
use Rattle.vb_model.specs.declared.replies.Reply.TheVariants.{Plugged, Done, Ready, Page, ReadBytes}
use Rattle.vb_model.specs.declared.replies.Reply.TheVariants.{Posted, Filled, NotUsed, Reaped}
use Rattle.vb_model.specs.declared.replies.Reply.TheVariants.{Taken, Empty, Worked, Idle, Finished}
use Rattle.vb_model.specs.declared.replies.Reply.TheVariants.{Swept, Asked, Targets, Places, Pages}
use Rattle.vb_model.specs.declared.replies.Reply.TheVariants.{Balloon, Statistics, Backing, Frames}
use Rattle.vb_model.specs.declared.replies.Reply.TheVariants.{Refused, Served}
use Rattle.std.specs.Fmt.{digits}
use Rattle.hex.specs.Hex.{encode_with}
use Rattle.vb_reply.specs.Replies.{refusal_text, reply_text, line_of}

refusals : map refusal_text (NoGuest ∷ BadConfig ∷ TooMany ∷ NoDevice ∷ BadOrder ∷ BadCpu ∷ NoPages ∷ NotHeld
    ∷ NotReady ∷ QueueFull ∷ DeflatePending ∷ Nothing ∷ RingBroken ∷ NoFeature ∷ AlreadyUp
    ∷ FeatureNotOffered ∷ VersionMissing ∷ ClearsBit ∷ OutOfOrder ∷ NoQueue ∷ NeedsReset ∷ Busy ∷ Broken 6
    ∷ NotTaken ∷ NotWorked ∷ NotBallooned ∷ OutOfRam ∷ NoFrame ∷ NoMemory ∷ Short 12 ∷ [])
    ≡ codes "no guest" ∷ codes "bad config" ∷ codes "too many" ∷ codes "no device" ∷ codes "bad order"
    ∷ codes "bad cpu" ∷ codes "no pages" ∷ codes "not held" ∷ codes "not ready" ∷ codes "queue full"
    ∷ codes "deflate pending" ∷ codes "nothing" ∷ codes "ring broken" ∷ codes "no feature"
    ∷ codes "already up" ∷ codes "feature not offered" ∷ codes "version missing" ∷ codes "clears bit"
    ∷ codes "out of order" ∷ codes "no queue" ∷ codes "needs reset" ∷ codes "busy" ∷ codes "broken C6"
    ∷ codes "not taken" ∷ codes "not worked" ∷ codes "not ballooned" ∷ codes "out of ram"
    ∷ codes "no frame" ∷ codes "memory" ∷ codes "short 12" ∷ []
unfolding digits
refusals = refl

calls : map reply_text (Plugged 3 ∷ Done ∷ Ready ∷ Page 16 ∷ ReadBytes (171 ∷ 5 ∷ []) ∷ Posted 2 40 ∷ Filled
    ∷ NotUsed ∷ Reaped 2 40 ∷ Taken 7 ∷ Empty ∷ Worked 20 true ∷ Worked 20 false ∷ Idle ∷ Finished 7
    ∷ Served 0 None ∷ Served 16 None ∷ Served 2 (Some 10) ∷ Swept true ∷ Swept false ∷ Asked
    ∷ Refused NoGuest ∷ [])
    ≡ codes "guest 3" ∷ codes "ok" ∷ codes "ready" ∷ codes "page 16" ∷ codes "bytes ab05"
    ∷ codes "posted 2 40" ∷ codes "filled" ∷ codes "none" ∷ codes "reaped 2 40" ∷ codes "taken 7"
    ∷ codes "empty" ∷ codes "worked 20 freed" ∷ codes "worked 20 bare" ∷ codes "idle"
    ∷ codes "finished 7" ∷ codes "served 0" ∷ codes "served 16" ∷ codes "served 2 broken C10"
    ∷ codes "swept freed" ∷ codes "swept bare" ∷ codes "asked" ∷ codes "no guest" ∷ []
unfolding digits encode_with
calls = refl

questions : map reply_text (Targets (3 ∷ 0 ∷ []) ∷ Targets [] ∷ Places
    (record { free = 1; used = 2; giving = 3; lent = 4; taking = 5; stranded = 6; reporting = 7 })
    ∷ Pages (record { first = 16; last = 19 } ∷ record { first = 30; last = 30 } ∷ []) ∷ Pages []
    ∷ Balloon (record { ballooned = 4; actual = 5; target = 6; status = 15 })
    ∷ Statistics (record { free = Some 4096; total = None })
    ∷ Backing (Some 13) ∷ Backing None ∷ Frames 14 50 ∷ []) ≡ codes "targets 3 0" ∷ codes "targets"
    ∷ codes "free 1 used 2 giving 3 lent 4 taking 5 stranded 6 reporting 7" ∷ codes "pages 16-19 30"
    ∷ codes "pages" ∷ codes "ballooned 4 actual 5 target 6 status 15" ∷ codes "memory 4096 -"
    ∷ codes "frame 13" ∷ codes "no backing" ∷ codes "frames used 14 free 50" ∷ []
unfolding digits
questions = refl

ends : line_of Done ≡ 111 ∷ 107 ∷ 10 ∷ []
ends = refl
