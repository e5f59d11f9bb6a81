-- Device, driver and model refuse the same calls.
use Rattle.std.specs.Prelude.{◌≡◌, ℕ, Bool, true, false, List, [], ◌∷◌, ◌++◌, length, Option, Some}
use Rattle.std.specs.Prelude.{None, is_some, not, if◌then◌else◌, refl, ◌⊎◌, slice_get}
use Rattle.{std.proofs.Common.{sym, ◌∙◌, ap, subst, arith, inl, inr}, vb_ram.specs.Pages.Pages}
use Rattle.vb_virtio.specs.FirstRefusal.{Cause, ◌⇒◌, first_refusal}
use Rattle.vb_virtio.specs.Queues.{Request, has_chains, is_queue_of_requests}
use Rattle.vb_virtio.specs.Status.{work_causes}
use Rattle.vb_virtio.specs.declared.refusals.Refusal.{Refusal}
use Rattle.vb_virtio.specs.declared.refusals.Refusal.TheVariants.{NotReady, NoQueue}
use Rattle.vb_model.specs.Guest.{Guest}
use Rattle.vb_model.specs.Refusals.{refusal_of, taken_count, is_taken, negotiated, taken_of}
use Rattle.vb_model.specs.Tables.{take_causes, finish_causes}
use Rattle.vb_model.specs.Tables.{ask_causes}
use Rattle.vb_driver.specs.State.{DriverState}
use Rattle.vb_model.specs.declared.calls.Call.{Call, TheVariants.{Take, Finish, Ask, Sweep, Work}}
use Rattle.{vb_ram.specs.Part.Part, vb_guest.specs.Stands.{IsIdle, IsRunning}}
use Rattle.vb_device.specs.Conditions.{sweep_refusal, work_refusal, take_refusal, finish_refusal}
use Rattle.vb_device.specs.{Conditions.{ask_refusal, taken_at}, Queues.queue_part}

abbrev pub IsIdleStatus : ℕ → Type 0
IsIdleStatus status = (status ≡ 0) ⊎ (status ≡ 131)

-- what holds at both statuses before an initialisation
pub at_both : (P : ℕ → Type 0) (status : ℕ) → IsIdleStatus status → P 0 → P 131 → P status
at_both x status z a b = grind arith

-- a last test that doesn't hold
pub last_cause : (causes : List Cause) {b : Bool} (why : Refusal)
    → b ≡ false → first_refusal (causes ++ (b ⇒ why) ∷ []) ≡ first_refusal causes
last_cause [] why e = ap (λ (v : Bool). first_refusal ((v ⇒ why) ∷ [])) e
last_cause (cause ∷ causes) {b} why e = by cause.holds (last_cause causes why e) where
  by : (v : Bool) → first_refusal (causes ++ (b ⇒ why) ∷ []) ≡ first_refusal causes
      → (if v then Some cause.refusal else first_refusal (causes ++ (b ⇒ why) ∷ []))
      ≡ (if v then Some cause.refusal else first_refusal causes)
  by x same = grind arith

-- ---- take

pub take_same : (q : ℕ) (part : Part) (g : Guest) → part.status ≡ g.status
    → part.features ≡ g.features → length (queue_part q part).taken ≡ taken_count g q
    → take_refusal q part ≡ refusal_of g (Take q)
take_same q part g status features taken = let count : ℕ = length (queue_part q part).taken in
    ap (λ (s : ℕ). first_refusal
    (take_causes q (record { status = s; features = part.features }) count)) status ∙ ap
    (λ (f : ℕ). first_refusal (take_causes q (record { status = g.status; features = f }) count))
    features ∙ ap (λ (n : ℕ). first_refusal (take_causes q (negotiated g) n)) taken

-- a queue that there is, where the device isn't initialised
pub take_idle : (q : ℕ) (part : Part) (g : Guest) → has_chains q ≡ true → part.status ≡ g.status
    → IsIdleStatus g.status
    → (take_refusal q part ≡ Some NotReady) × (refusal_of g (Take q) ≡ Some NotReady)
take_idle q part g has same down =
    let first = ap (λ (b : Bool). if not b then Some NoQueue else Some NotReady) has in
    let P : ℕ → Type 0 = λ s. take_refusal q (record part { status = s }) ≡ Some NotReady in
    let G : ℕ → Type 0 = λ s. refusal_of (record g { status = s }) (Take q) ≡ Some NotReady in (
      at_both P part.status (subst IsIdleStatus (sym same) down) first first,
      at_both G g.status down first first,
    )

-- ---- finish

pub finish_same : (q i : ℕ) (part : Part) (g : Guest) → part.status ≡ g.status
    → part.paced ≡ g.config.paced → taken_at q i part ≡ slice_get (taken_of g q) i
    → finish_refusal q i part ≡ refusal_of g (Finish q i)
finish_same q i part g status paced taken =
    ap (λ (s : ℕ). first_refusal (finish_causes q (record { status = s; features = g.features })
    part.paced (taken_at q i part))) status ∙ ap
    (λ (b : Bool). first_refusal (finish_causes q (negotiated g) b (taken_at q i part))) paced ∙ ap
    (λ (o : Option Request). first_refusal (finish_causes q (negotiated g) g.config.paced o)) taken

pub finish_idle : (q i : ℕ) (part : Part) (g : Guest) → is_queue_of_requests q ≡ true
    → part.status ≡ g.status → IsIdleStatus g.status
    → (finish_refusal q i part ≡ Some NotReady) × (refusal_of g (Finish q i) ≡ Some NotReady)
finish_idle q i part g has same down =
    let first = ap (λ (b : Bool). if not b then Some NoQueue else Some NotReady) has in
    let P : ℕ → Type 0 = λ s. finish_refusal q i (record part { status = s }) ≡ Some NotReady in
    let G : ℕ → Type 0 = λ s. refusal_of (record g { status = s }) (Finish q i) ≡ Some NotReady in (
      at_both P part.status (subst IsIdleStatus (sym same) down) first first,
      at_both G g.status down first first,
    )

-- ---- ask

pub ask_same : (part : Part) (g : Guest) → part.status ≡ g.status
    → is_some (taken_at 2 0 part) ≡ is_taken g.buffer → ask_refusal part ≡ refusal_of g Ask
ask_same part g status taken =
    ap (λ (s : ℕ). first_refusal (ask_causes s (is_some (taken_at 2 0 part)))) status
    ∙ ap (λ (b : Bool). first_refusal (ask_causes g.status b)) taken

pub ask_idle : (part : Part) (g : Guest) → part.status ≡ g.status → IsIdleStatus g.status
    → (ask_refusal part ≡ Some NotReady) × (refusal_of g Ask ≡ Some NotReady)
ask_idle part g same down =
    let P : ℕ → Type 0 = λ s. ask_refusal (record part { status = s }) ≡ Some NotReady in
    let G : ℕ → Type 0 = λ s. refusal_of (record g { status = s }) Ask ≡ Some NotReady in (
      at_both P part.status (subst IsIdleStatus (sym same) down) refl refl,
      at_both G g.status down refl refl,
    )

-- ---- sweep and work

pub sweep_same : (page : ℕ) (part : Part) (g : Guest) → part.status ≡ g.status
    → part.features ≡ g.features → part.ballooned ≡ g.ballooned
    → sweep_refusal page part ≡ refusal_of g (Sweep page)
sweep_same page part g status features flags = grind arith

pub sweep_idle : (page : ℕ) (part : Part) (g : Guest) → part.status ≡ g.status
    → IsIdleStatus g.status
    → (sweep_refusal page part ≡ Some NotReady) × (refusal_of g (Sweep page) ≡ Some NotReady)
sweep_idle page part g same down = grind arith

pub works_same : (part : Part) (g : Guest) → part.status ≡ g.status
    → work_refusal part ≡ refusal_of g Work
works_same part g status = ap (λ (s : ℕ). first_refusal (work_causes s)) status

pub works_idle : (part : Part) (g : Guest) → part.status ≡ g.status → IsIdleStatus g.status
    → (work_refusal part ≡ Some NotReady) × (refusal_of g Work ≡ Some NotReady)
works_idle part g same down = grind arith

-- ---- a call on a device

-- what follows for each refusal, and for a running guest that isn't refused, follows for any
pub by_state : {S : Type 0} {m : Pages} {p : Part} {d : DriverState} {g : Guest}
    (call : Call) (refused : Option Refusal) → IsIdle g ⊎ IsRunning m p d g → (IsIdleStatus g.status
    → (refused ≡ Some NotReady) × (refusal_of g call ≡ Some NotReady)) → (IsRunning m p d g
    → refused ≡ refusal_of g call) → ((why : Refusal) → refused ≡ Some why → refusal_of g call
    ≡ Some why → S) → (IsRunning m p d g → refused ≡ None → refusal_of g call ≡ None → S) → S
by_state call refused (inl idle) down same stops goes =
    let both = down idle.state in stops NotReady both.0 both.1
by_state {S} {g} call refused (inr run) down same stops goes = by (refusal_of g call) refl where
  by : (o : Option Refusal) → refusal_of g call ≡ o → S
  by x is = grind arith

-- ---- a call on a driver

-- driver and guest refuse it for the same cause, whether the device is initialised or not
pub refused_alike : {m : Pages} {p : Part} {d : DriverState}
    {g : Guest} (call : Call) {refused : Option Refusal} → IsIdle g ⊎ IsRunning m p d g
    → (IsIdleStatus g.status → (refused ≡ Some NotReady) × (refusal_of g call ≡ Some NotReady))
    → (IsRunning m p d g → refused ≡ refusal_of g call) → refused ≡ refusal_of g call
refused_alike call y down same = grind arith

-- where it isn't refused, the guest runs
pub runs_where : {m : Pages} {p : Part} {d : DriverState}
    {g : Guest} (call : Call) (refused : Option Refusal) → IsIdle g ⊎ IsRunning m p d g
    → (IsIdleStatus g.status → (refused ≡ Some NotReady) × (refusal_of g call ≡ Some NotReady))
    → refusal_of g call ≡ None → IsRunning m p d g
runs_where call refused z down free = grind arith
