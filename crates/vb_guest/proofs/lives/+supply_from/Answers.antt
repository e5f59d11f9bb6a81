use Rattle.std.proofs.Common.{◌≡◌, ◌∙◌, ◌∷◌, [], ◌+◌, ◌<◌, ℕ, List, sym, ap, subst, true, length}
use Rattle.vb_virtio.specs.Layout.{reserved_pages}
use Rattle.std.proofs.Common.{arith, rules, length-append}
use Rattle.{vb_model.specs.declared.calls.Claim.TheVariants.Gave, vb_ram.specs.Pages.Pages}
use Rattle.vb_guest.proofs.Claiming.{bare_skips, bare_takes, err_is, still_inside, still_bare}
use Rattle.vb_guest.proofs.Claiming.{still_used, supplies_none, supplies_rest, supplies_refused}
use Rattle.vb_guest.proofs.{Claiming.{supplies_all, supplies_back}, Quiet.{noted_one, noted_more}}
use Rattle.vb_guest.specs.{Lives.{is_bare, bare_from, SuppliesBy}, Supply.supply_of}
use Rattle.vb_guest.proofs.lives.+supply_from.Goals as goal

pub returns-then-page-reserved_pages-clause-supplies
    : goal.returns-then-page-reserved_pages-clause-supplies
returns-then-page-reserved_pages-clause-supplies g t c =
    supplies_none c.args.shape.queue_size c.args.page
    (omega (arith, c.if-page-reserved_pages.true, c.reserved_pages.ensures))

pub supply_from-requires : goal.supply_from-requires
supply_from-requires g t c κs within = let size : ℕ = c.args.shape.queue_size in
    let mem : Pages = g.D.GuestBytes.mem c.args.device.now in
    let lt : c.args.page < reserved_pages size =
    omega (arith, c.if-page-reserved_pages.false, c.reserved_pages.ensures) in
    let skips =
    bare_skips size mem c.args.page lt (sym c.is_bare.ensures ∙ c.if-not-is_bare.true) in
    let same = ap (λ (l : List ℕ). length l) skips in (
      search rules,
      (
        search rules,
        (
          search rules,
          (c.requires.none, (c.requires.memory, omega (arith, c.requires.room, same))),
        ),
      ),
    )

pub returns-then-not-is_bare-clause-supplies : goal.returns-then-not-is_bare-clause-supplies
returns-then-not-is_bare-clause-supplies g t c = let size : ℕ = c.args.shape.queue_size in
    supplies_rest size c.args.page
    (omega (arith, c.if-page-reserved_pages.false, c.reserved_pages.ensures))
    (sym c.is_bare.ensures ∙ c.if-not-is_bare.true) c.supply_from.ensures.supplies

pub claim_frame-requires : goal.claim_frame-requires
claim_frame-requires g t c = let size : ℕ = c.args.shape.queue_size in
    let takes = bare_takes size (g.D.GuestBytes.mem c.args.device.now) c.args.page
    (omega (arith, c.if-page-reserved_pages.false, c.reserved_pages.ensures))
    (sym c.is_bare.ensures ∙ c.if-not-is_bare.false) in
    record { room = omega (arith, c.requires.room, ap (λ (l : List ℕ). length l) takes) }

pub returns-in_err-frame-clause-supplies : goal.returns-in_err-frame-clause-supplies
returns-in_err-frame-clause-supplies g t c = let size : ℕ = c.args.shape.queue_size in
    let bare : is_bare size (g.D.GuestBytes.mem c.args.device.now) c.args.page ≡ true =
    sym c.is_bare.ensures ∙ c.if-not-is_bare.false in
    let did = c.in_err-frame.ensures in
    subst (λ r. SuppliesBy {T = Unit {0}} g.K.FrameKeeper.answers (supply_of
    (g.D.GuestBytes.part c.args.device.now) (g.K.FrameKeeper.out c.args.keeper.now)) (supply_of
    (g.D.GuestBytes.part c.claim_frame.new.device) (g.K.FrameKeeper.out c.claim_frame.new.keeper))
    c.args.claims.now.items c.claim_frame.new.claims.items (bare_from size
    (g.D.GuestBytes.mem c.args.device.now) c.args.page) (g.D.GuestBytes.mem c.args.device.now)
    (g.D.GuestBytes.mem c.claim_frame.new.device) r) (err_is c.from_residual.result
    _ c.from_residual.ensures.1) (supplies_refused size c.args.page _ (omega (
      arith,
      c.if-page-reserved_pages.false,
      c.reserved_pages.ensures,
    )) bare did.claimed did.noted did.mem)

pub supply_from-requires-2 : goal.supply_from-requires-2
supply_from-requires-2 g t c κs within = let size : ℕ = c.args.shape.queue_size in
    let did = c.in_ok-frame.ensures in
    let takes = bare_takes size (g.D.GuestBytes.mem c.args.device.now) c.args.page
    (omega (arith, c.if-page-reserved_pages.false, c.reserved_pages.ensures))
    (sym c.is_bare.ensures ∙ c.if-not-is_bare.false) in
    let same = ap (λ (m : Pages). length (bare_from size m (c.args.page + 1))) did.mem in (
      search rules,
      (
        search rules,
        (
          search rules,
          (
            search rules,
            (
              search rules,
              omega (
                arith,
                c.requires.room,
                ap (λ (l : List ℕ). length l) takes,
                same,
                ap length did.noted,
                length-append c.args.claims.now.items (Gave c.in_ok-frame.frame.number ∷ []),
              ),
            ),
          ),
        ),
      ),
    )

pub supply-requires-clause-inside : goal.supply-requires-clause-inside
supply-requires-clause-inside g t c =
    still_inside c.args.shape.queue_size c.args.page (omega (
      arith,
      c.if-page-reserved_pages.false,
      c.reserved_pages.ensures,
    )) c.requires.memory c.in_ok-frame.ensures.mem c.in-Ok.ensures.supplies

pub supply-requires-clause-bare : goal.supply-requires-clause-bare
supply-requires-clause-bare g t c = still_bare c.args.shape.queue_size c.args.page (sym
    c.is_bare.ensures ∙ c.if-not-is_bare.false) c.in_ok-frame.ensures.mem c.in-Ok.ensures.supplies

pub returns-in-Ok-clause-supplies : goal.returns-in-Ok-clause-supplies
returns-in-Ok-clause-supplies g t c = let size : ℕ = c.args.shape.queue_size in
    let none : is_bare size (g.D.GuestBytes.mem c.args.device.now) c.args.page ≡ true =
    sym c.is_bare.ensures ∙ c.if-not-is_bare.false in
    let bare = still_bare size c.args.page none
    c.in_ok-frame.ensures.mem c.in-Ok.ensures.supplies in
    rw c.supply.ensures.part (supplies_all size (omega (
      arith,
      c.if-page-reserved_pages.false,
      c.reserved_pages.ensures,
    )) none c.in_ok-frame.ensures.claimed c.in_ok-frame.ensures.noted
    c.in_ok-frame.ensures.mem c.in-Ok.ensures.supplies bare c.supply.ensures.supplied)

pub return_frame-requires-clause-used : goal.return_frame-requires-clause-used
return_frame-requires-clause-used g t c =
    still_used c.in-Err.refused c.in_ok-frame.ensures.claimed c.in-Err.ensures.supplies

pub returns-in-Err-clause-supplies : goal.returns-in-Err-clause-supplies
returns-in-Err-clause-supplies g t c = let size : ℕ = c.args.shape.queue_size in
    supplies_back size c.args.page c.in-Err.refused (omega (
      arith,
      c.if-page-reserved_pages.false,
      c.reserved_pages.ensures,
    )) (sym c.is_bare.ensures ∙ c.if-not-is_bare.false)
    c.in_ok-frame.ensures.claimed c.in_ok-frame.ensures.noted c.in_ok-frame.ensures.mem
    c.in-Err.ensures.supplies c.return_frame.ensures.mem c.return_frame.ensures.moves

pub returns-in_err-frame-clause-quiet : goal.returns-in_err-frame-clause-quiet
returns-in_err-frame-clause-quiet g t c = noted_one _ c.in_err-frame.ensures.noted

pub returns-in-Ok-clause-quiet : goal.returns-in-Ok-clause-quiet
returns-in-Ok-clause-quiet g t c =
    noted_more _ _ c.in_ok-frame.ensures.noted c.in-Ok.ensures.supplies.noted

pub returns-in-Err-clause-quiet : goal.returns-in-Err-clause-quiet
returns-in-Err-clause-quiet g t c =
    noted_more _ _ c.in_ok-frame.ensures.noted c.in-Err.ensures.supplies.noted
