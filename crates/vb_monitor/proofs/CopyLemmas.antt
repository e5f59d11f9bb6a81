-- Parts that are copied, one less.
use Rattle.std.proofs.Common.{◌≡◌, ◌∙◌, ap, sym, subst, arith, ℕ, ◌+◌, ◌≤◌, true, false, List, [], ◌∷◌}
use Rattle.std.{proofs.Common.{length, take}, specs.Prelude.◌==◌}
use Rattle.std.proofs.lemmas.List.{length-take, take_all}
use Rattle.vb_virtio.specs.declared.limits.TheConstants.{MAX_QUEUE_SIZE}
use Rattle.vb_chain.specs.declared.pieces.Piece.{Piece}
use Rattle.vb_core.specs.declared.pieces.ChainPiece.{ChainPiece}
use Rattle.vb_monitor.specs.declared.room.TheConstants.{MAX_BYTES, MAX_PIECES}
use Rattle.vb_monitor.{specs.Pieces.parts_on, proofs.PartLemmas.all_again}
use Rattle.vb_core.specs.declared.device.Device.{Device}
use Rattle.vb_chain.specs.declared.fault.ChainFault.TheVariants.{BadLength}
use Rattle.vb_monitor.specs.declared.{parts.Part.Part, outcome.Tally.Tally}
use Rattle.vb_monitor.specs.{Accesses.Access, Ends.{Whole, Breaks}, Pieces.PartAt, Regions.spot}
use Rattle.vb_monitor.specs.Portions.{is_full, CopiesPart, CopiesParts, CopiesFurther, ServesPortion}
use Rattle.vb_monitor.specs.Portions.{GoesFurther}

-- what serves the last portion
abbrev pub Serves : Type 1
Serves = Device → Tally → List ℕ → List Access → Type 0

pub copies_none : (w : Whole) (served : Serves) (d : Device) (t : Tally) (parts : List Part)
    (so_far : List ℕ) (log : List Access) → parts ≡ [] → served d t so_far log →
    CopiesParts w served d t parts so_far log
copies_none w served d t parts so_far log e h =
    subst (λ (ps : List Part). CopiesParts w served d t ps so_far log) (sym e) h

pub copies_more : (w : Whole) (served : Serves) (d : Device) (t : Tally) (parts rest : List Part)
    (part : Part) (so_far : List ℕ) (log : List Access) → parts ≡ part ∷ rest →
    is_full so_far ≡ false → PartAt w (CopiesParts w served d t rest) d t part so_far
    (spot w.regions (part.address + part.plus) part.length) log →
    CopiesParts w served d t parts so_far log
copies_more w served d t parts rest part so_far log e full h =
    subst (λ (ps : List Part). CopiesParts w served d t ps so_far log) (sym e)
    (subst (λ b. CopiesPart b w (λ d2 t2 now l. PartAt w (CopiesParts w served d2 t2 rest) d2 t2 part
    now (spot w.regions (part.address + part.plus) part.length) l) d t so_far log) (sym full) h)

pub copies_full : (w : Whole) (served : Serves) (d : Device) (t : Tally) (parts rest : List Part)
    (part : Part) (so_far : List ℕ) (log : List Access) → parts ≡ part ∷ rest →
    is_full so_far ≡ true →
    ServesPortion w.kind w (λ d2 t2 l. GoesFurther w served d2 parts t2 l) d t so_far log →
    CopiesParts w served d t parts so_far log
copies_full w served d t parts rest part so_far log e full h =
    subst (λ (ps : List Part). CopiesParts w served d t ps so_far log) (sym e)
    (subst (λ b. CopiesPart b w (λ d2 t2 now l. PartAt w (CopiesParts w served d2 t2 rest) d2 t2 part
    now (spot w.regions (part.address + part.plus) part.length) l) d t so_far log) (sym full)
    (subst (λ (ps : List Part). ServesPortion w.kind w (λ d2 t2 l. GoesFurther w served d2 ps t2 l)
    d t so_far log) e h))

pub further_none : (w : Whole) (served : Serves) (d : Device) (t : Tally) (parts : List Part)
    (log : List Access) → parts ≡ [] → Breaks w d t BadLength log →
    CopiesFurther w served d t parts log
further_none w served d t parts log e h =
    subst (λ (ps : List Part). CopiesFurther w served d t ps log) (sym e) h

pub further_more : (w : Whole) (served : Serves) (d : Device) (t : Tally) (parts rest : List Part)
    (part : Part) (log : List Access) → parts ≡ part ∷ rest →
    PartAt w (CopiesParts w served d t rest) d t part []
    (spot w.regions (part.address + part.plus) part.length) log →
    CopiesFurther w served d t parts log
further_more w served d t parts rest part log e h =
    subst (λ (ps : List Part). CopiesFurther w served d t ps log) (sym e) h

-- the room is full
pub copies_portion : (w : Whole) (served : Serves) (d : Device) (t : Tally) (into done : ℕ)
    (ps : List Piece) (bytes : List ℕ) (part : Part) (rest : List Part) (log : List Access) →
    into ≡ MAX_BYTES → length bytes ≡ MAX_BYTES → parts_on into done ps ≡ part ∷ rest →
    ServesPortion w.kind w (λ d2 t2 l. GoesFurther w served d2 (parts_on 0 done ps) t2 l) d t bytes
    log → CopiesParts w served d t (parts_on into done ps) (take into bytes) log
copies_portion w served d t into done ps bytes part rest log e long parts h =
    let again : parts_on 0 done ps ≡ parts_on into done ps = all_again ps done 0 into
    (let is = e in omega (arith, is)) in
    let all : take into bytes ≡ bytes = take_all into bytes (omega (arith, e, long)) in
    let full : is_full (take into bytes) ≡ true =
    ap (λ (l : List ℕ). length l == MAX_BYTES) all ∙ ap (λ (n : ℕ). n == MAX_BYTES) long in
    copies_full w served d t (parts_on into done ps) rest part (take into bytes) log parts full
    (subst (λ (l : List ℕ). ServesPortion w.kind w
    (λ d2 t2 l2. GoesFurther w served d2 (parts_on into done ps) t2 l2) d t l log) (sym all)
    (subst (λ (qs : List Part). ServesPortion w.kind w
    (λ d2 t2 l. GoesFurther w served d2 qs t2 l) d t bytes log) again h))

pub few_pieces : (n : ℕ) (all first : List ChainPiece) → first ≡ take n all →
    length all ≡ MAX_PIECES → length first ≤ MAX_QUEUE_SIZE
few_pieces n all first e f =
    let less = length-take n all in
    let same = ap (λ (l : List ChainPiece). length l) e in
    omega (arith, less, same, f)

pub ruleset copy_steps = (copies_none, copies_more)

pub ruleset further_steps = (further_none, further_more)
