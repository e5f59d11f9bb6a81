-- A call that an honest guest answers leaves its pages without frames blank.
use Rattle.std.proofs.Common.{List, [], ap, arith, cond, false, length, length-append, length-drop}
use Rattle.std.proofs.Common.{length-take, refl, subst, sym, true, ℕ, ◌+◌, ◌<◌, ◌∙◌, ◌∷◌, ◌≡◌, ◌≤◌}
use Rattle.std.proofs.lemmas.List.{get_or-replicate, length-replicate, take-append-drop}
use Rattle.std.specs.Prelude.{None, Option, Some, ◌==◌}
use Rattle.vb_model.proofs.{Cases.supplied, Outcomes.{Begun, Cleared, Emptied, Outcome, Put}}
use Rattle.vb_virtio.proofs.Tables.{each_page-get, length-each_from}
use Rattle.vb_virtio.specs.Memory.{overwritten, zero_page}
use Rattle.vb_virtio.specs.Limits.{page_size}
use Rattle.vb_virtio.specs.Tests.{each_page}
use Rattle.vb_model.proofs.Outcomes.{Retargeted, Shuffled, Turned, outcome}
use Rattle.vb_model.specs.Blank.{IsBlank}
use Rattle.vb_model.specs.Driver.{AreClaimsFor}
use Rattle.vb_model.specs.Driver.{claim_refusal, given, pages_needed}
use Rattle.vb_model.specs.Guest.{Config}
use Rattle.vb_model.specs.Guest.{Guest, all_backed, backed, frame_of, fresh, unbacked}
use Rattle.vb_model.specs.Life.{lacking}
use Rattle.vb_model.specs.Refusals.{refusal_of}
use Rattle.vb_model.specs.Step.{HonestStep}
use Rattle.vb_model.specs.declared.calls.Call.{Call}
use Rattle.vb_model.specs.declared.calls.Call.TheVariants.{Write}
use Rattle.vb_model.specs.declared.{calls.Claim.Claim, replies.Reply.Reply}

pub length-zero_page : length zero_page ≡ page_size
unfolding zero_page
length-zero_page = length-replicate {A = ℕ} page_size 0

-- ---- pages lose their frames

loses : (pages : List ℕ) (g : Guest) → IsBlank g → IsBlank (unbacked pages g)
loses pages g h = grind (arith, length-each_from, each_page-get, length-zero_page)

-- ---- pages get frames

backed_at : (p f : ℕ) (frames : List (Option ℕ)) (page : ℕ) → page < length frames
    → frame_of (backed p f frames) page ≡ cond (page == p) (Some f) (frame_of frames page)
backed_at p f frames page l =
    each_page-get (λ q old. cond (q == p) (Some f) old) frames page None (λ m. absurd (omega arith))

length-backed : (p f : ℕ) (frames : List (Option ℕ)) → length (backed p f frames) ≡ length frames
length-backed p f frames = length-each_from 0 _ frames

was_bare : (p f : ℕ) (frames : List (Option ℕ)) (page : ℕ) → page < length frames
    → frame_of (backed p f frames) page ≡ None
    → (frame_of frames page ≡ None) × ((page == p) ≡ false)
was_bare p f frames page l none = grind (arith, backed_at)

length-all_backed : (pages new : List ℕ) (frames : List (Option ℕ))
    → length (all_backed pages new frames) ≡ length frames
length-all_backed [] new frames = refl
length-all_backed (p ∷ ps) [] frames = refl
length-all_backed (p ∷ ps) (f ∷ new) frames =
    length-all_backed ps new (backed p f frames) ∙ length-backed p f frames

all_bare : (pages new : List ℕ) (frames : List (Option ℕ)) (page : ℕ) → page < length frames
    → frame_of (all_backed pages new frames) page ≡ None → frame_of frames page ≡ None
all_bare [] new frames page l none = none
all_bare (p ∷ ps) [] frames page l none = none
all_bare (p ∷ ps) (f ∷ new) frames page l none = (was_bare p f frames page l
    (all_bare ps new (backed p f frames) page (let e = length-backed p f frames in omega arith)
    none)).0

gains : (pages new : List ℕ) (g : Guest) → IsBlank g
    → IsBlank (record g { frames = all_backed pages new g.frames })
gains pages new g h = grind (arith, length-all_backed, all_bare)

-- ---- a write

length-overwritten : (offset : ℕ) (bytes old : List ℕ) (size : ℕ) → length old ≡ size
    → offset + length bytes ≤ size → length (overwritten offset bytes old) ≡ size
length-overwritten offset bytes old size e l =
    simp (length-append, length-take, length-drop) (omega arith)

-- the contents of another page stay, and a write of nothing changes none
writes : (p offset : ℕ) (bytes : List ℕ) (g : Guest) → IsBlank g → offset + length bytes ≤ page_size
    → ((page : ℕ) → frame_of g.frames page ≡ None → (page == p) ≡ true → page < g.config.pages
    → bytes ≡ []) → IsBlank (record g {
      contents = each_page (λ q old. cond (q == p) (overwritten offset bytes old) old) g.contents;
    })
writes p offset bytes g h fits bare =
    grind (arith, length-each_from, each_page-get, length-overwritten, take-append-drop)

-- a page that gets a byte has a frame then
written_backed : (p : ℕ) (bytes : List ℕ) (g : Guest) (claims : List Claim) → IsBlank g
    → AreClaimsFor (pages_needed p bytes g) claims → claim_refusal claims ≡ None → (page : ℕ)
    → frame_of (all_backed (pages_needed p bytes g) (given claims) g.frames) page ≡ None
    → (page == p) ≡ true → page < g.config.pages → bytes ≡ []
written_backed p bytes g claims h a r page none same l = grind (arith, was_bare)

-- ---- a call that isn't refused

-- a write that isn't refused lies in its page
in_page : (g : Guest) (page offset : ℕ) (bytes : List ℕ)
    → refusal_of g (Write page offset bytes) ≡ None → offset + length bytes ≤ page_size
in_page g page offset bytes e = grind arith

leaves_blank : (call : Call) (g : Guest) (claims : List Claim) (reply : Reply) (new : Guest)
    → IsBlank g → Outcome call g claims reply new → new.rogue ≡ false → IsBlank new
leaves_blank call g claims reply new h (Shuffled e) honest = subst IsBlank (sym e) h
leaves_blank call g claims reply new h (Emptied pages why e) honest =
    subst IsBlank (sym e) (loses pages g h)
leaves_blank call g claims reply new h (Retargeted n is e) honest = subst IsBlank (sym e) h
leaves_blank call g claims reply new h (Cleared e) honest = subst IsBlank (sym e) h
leaves_blank call g claims reply new h (Begun wanted is passed e) honest =
    subst IsBlank (sym e) (gains (lacking g) (given claims) g h)
leaves_blank call g claims reply new h (Put page offset bytes is passed are none w) honest =
    subst IsBlank (sym w.1)
    (writes page offset bytes (supplied (pages_needed page bytes g) claims g)
    (gains (pages_needed page bytes g) (given claims) g h)
    (in_page g page offset bytes (ap (refusal_of g) (sym is) ∙ passed))
    (λ p bare same l. written_backed page bytes g claims h are none p bare same l))
leaves_blank call g claims reply new h (Turned page offset bytes is passed s) honest =
    absurd (let rogue : new.rogue ≡ true = s.state.still in cc)

pub honest_blank : (g : Guest) (call : Call) (claims : List Claim) (reply : Reply) (new : Guest)
    → IsBlank g → HonestStep g call claims reply new → new.rogue ≡ false → IsBlank new
honest_blank g call claims reply new h s honest =
    leaves_blank call g claims reply new h (outcome g call claims reply new s) honest

pub fresh_blank : (config : Config) (target : ℕ) → IsBlank (fresh config target)
fresh_blank config target = grind (arith, length-replicate, get_or-replicate, length-zero_page)
