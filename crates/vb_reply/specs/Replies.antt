-- The line of each reply.
use Rattle.std.specs.Prelude.{ℕ, Bool, true, false, List, [], ◌∷◌, ◌++◌, Option, Some, None}
use Rattle.std.specs.Prelude.{codes, if◌then◌else◌, ◌==◌}
use Rattle.std.specs.Fmt.{decimal}
use Rattle.std.specs.List.{flat_map}
use Rattle.hex.specs.Hex.{encode_lower}
use Rattle.vb_model.specs.declared.places.PageRun.{PageRun}
use Rattle.vb_model.specs.declared.places.PlaceCounts.{PlaceCounts}
use Rattle.vb_virtio.specs.declared.refusals.Refusal.{Refusal}
use Rattle.vb_virtio.specs.declared.refusals.Refusal.TheVariants.{NoGuest, BadConfig, TooMany}
use Rattle.vb_virtio.specs.declared.refusals.Refusal.TheVariants.{NoDevice, BadOrder, BadCpu}
use Rattle.vb_virtio.specs.declared.refusals.Refusal.TheVariants.{NoPages, NotHeld, NotReady}
use Rattle.vb_virtio.specs.declared.refusals.Refusal.TheVariants.{QueueFull, DeflatePending}
use Rattle.vb_virtio.specs.declared.refusals.Refusal.TheVariants.{Nothing, RingBroken, NoFeature}
use Rattle.vb_virtio.specs.declared.refusals.Refusal.TheVariants.{AlreadyUp, FeatureNotOffered}
use Rattle.vb_virtio.specs.declared.refusals.Refusal.TheVariants.{VersionMissing, ClearsBit}
use Rattle.vb_virtio.specs.declared.refusals.Refusal.TheVariants.{OutOfOrder, NoQueue, NeedsReset}
use Rattle.vb_virtio.specs.declared.refusals.Refusal.TheVariants.{Busy, Broken, NotTaken, NotWorked}
use Rattle.vb_virtio.specs.declared.refusals.Refusal.TheVariants.{NotBallooned, OutOfRam, NoFrame}
use Rattle.vb_virtio.specs.declared.refusals.Refusal.TheVariants.{NoMemory, Short}
use Rattle.vb_model.specs.declared.replies.Reply.{Reply}
use Rattle.vb_model.specs.declared.replies.Reply.TheVariants.{Plugged, Done, Ready, Page, ReadBytes}
use Rattle.vb_model.specs.declared.replies.Reply.TheVariants.{Posted, Filled, NotUsed, Reaped}
use Rattle.vb_model.specs.declared.replies.Reply.TheVariants.{Taken, Empty, Worked, Idle, Finished}
use Rattle.vb_model.specs.declared.replies.Reply.TheVariants.{Swept, Asked, Targets, Places, Pages}
use Rattle.vb_model.specs.declared.replies.Reply.TheVariants.{Balloon, Statistics, Backing, Frames}
use Rattle.vb_model.specs.declared.replies.Reply.TheVariants.{Refused, Served}

abbrev pub refusal_text : Refusal → List ℕ
refusal_text NoGuest = codes "no guest"
refusal_text BadConfig = codes "bad config"
refusal_text TooMany = codes "too many"
refusal_text NoDevice = codes "no device"
refusal_text BadOrder = codes "bad order"
refusal_text BadCpu = codes "bad cpu"
refusal_text NoPages = codes "no pages"
refusal_text NotHeld = codes "not held"
refusal_text NotReady = codes "not ready"
refusal_text QueueFull = codes "queue full"
refusal_text DeflatePending = codes "deflate pending"
refusal_text Nothing = codes "nothing"
refusal_text RingBroken = codes "ring broken"
refusal_text NoFeature = codes "no feature"
refusal_text AlreadyUp = codes "already up"
refusal_text FeatureNotOffered = codes "feature not offered"
refusal_text VersionMissing = codes "version missing"
refusal_text ClearsBit = codes "clears bit"
refusal_text OutOfOrder = codes "out of order"
refusal_text NoQueue = codes "no queue"
refusal_text NeedsReset = codes "needs reset"
refusal_text Busy = codes "busy"
refusal_text (Broken rule) = codes "broken C" ++ decimal rule
refusal_text NotTaken = codes "not taken"
refusal_text NotWorked = codes "not worked"
refusal_text NotBallooned = codes "not ballooned"
refusal_text OutOfRam = codes "out of ram"
refusal_text NoFrame = codes "no frame"
refusal_text NoMemory = codes "memory"
refusal_text (Short missing) = codes "short " ++ decimal missing

-- pages FIRST to LAST after a space, one page alone by its number
abbrev pub run_text : PageRun → List ℕ
run_text run =
    if run.first == run.last then codes " " ++ decimal run.first
    else codes " " ++ (decimal run.first ++ (codes "-" ++ decimal run.last))

-- a statistic that isn't known is `-`
abbrev pub statistic_text : Option ℕ → List ℕ
statistic_text None = codes " -"
statistic_text (Some value) = codes " " ++ decimal value

abbrev pub freed_text : Bool → List ℕ
freed_text true = codes "freed"
freed_text false = codes "bare"

abbrev pub bytes_text : List ℕ → List ℕ
bytes_text bytes = codes "bytes " ++ encode_lower bytes

-- a target after a space
abbrev pub target_text : ℕ → List ℕ
target_text target = codes " " ++ decimal target

abbrev pub targets_text : List ℕ → List ℕ
targets_text targets = codes "targets" ++ flat_map target_text targets

abbrev pub runs_text : List PageRun → List ℕ
runs_text runs = codes "pages" ++ flat_map run_text runs

abbrev pub counts_text : PlaceCounts → List ℕ
counts_text counts =
    codes "free " ++ (decimal counts.free
    ++ (codes " used " ++ (decimal counts.used
    ++ (codes " giving " ++ (decimal counts.giving
    ++ (codes " lent " ++ (decimal counts.lent
    ++ (codes " taking " ++ (decimal counts.taking
    ++ (codes " stranded " ++ (decimal counts.stranded
    ++ (codes " reporting " ++ decimal counts.reporting))))))))))))

abbrev pub reply_text : Reply → List ℕ
reply_text Done = codes "ok"
reply_text (Plugged guest) = codes "guest " ++ decimal guest
reply_text Ready = codes "ready"
reply_text (Page start) = codes "page " ++ decimal start
reply_text (ReadBytes bytes) = bytes_text bytes
reply_text (Posted head pages) = codes "posted " ++ (decimal head ++ (codes " " ++ decimal pages))
reply_text Filled = codes "filled"
reply_text NotUsed = codes "none"
reply_text (Reaped head pages) = codes "reaped " ++ (decimal head ++ (codes " " ++ decimal pages))
reply_text (Taken head) = codes "taken " ++ decimal head
reply_text Empty = codes "empty"
reply_text (Worked page freed) =
    codes "worked " ++ (decimal page ++ (codes " " ++ freed_text freed))
reply_text Idle = codes "idle"
reply_text (Finished head) = codes "finished " ++ decimal head
reply_text (Served chains None) = codes "served " ++ decimal chains
reply_text (Served chains (Some rule)) =
    codes "served " ++ (decimal chains ++ (codes " broken C" ++ decimal rule))
reply_text (Swept freed) = codes "swept " ++ freed_text freed
reply_text Asked = codes "asked"
reply_text (Targets pages) = targets_text pages
reply_text (Places counts) = counts_text counts
reply_text (Pages runs) = runs_text runs
reply_text (Balloon state) =
    codes "ballooned " ++ (decimal state.ballooned
    ++ (codes " actual " ++ (decimal state.actual
    ++ (codes " target " ++ (decimal state.target
    ++ (codes " status " ++ decimal state.status))))))
reply_text (Statistics last) =
    codes "memory" ++ (statistic_text last.free ++ statistic_text last.total)
reply_text (Backing None) = codes "no backing"
reply_text (Backing (Some frame)) = codes "frame " ++ decimal frame
reply_text (Frames used free) =
    codes "frames used " ++ (decimal used ++ (codes " free " ++ decimal free))
reply_text (Refused refusal) = refusal_text refusal

-- a line feed ends it
abbrev pub line_of : Reply → List ℕ
line_of reply = reply_text reply ++ 10 ∷ []
