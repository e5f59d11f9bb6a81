use Rattle.std.{proofs.Common.{◌∙◌, ◌-◌, ℕ, ap, arith}, specs.Prelude.slice_get}
use Rattle.vb_device.proofs.taken.TakenRequest.page_in.Goals as goal

pub returns-then-k-run-clause-page : goal.returns-then-k-run-clause-page
returns-then-k-run-clause-page c =
    ap (λ (j : ℕ). slice_get c.args.self.now.pages j) (omega (arith, c.if-run-k.true)) ∙
    c.requires.run.at (c.args.k - c.args.run.now.at) (omega (arith, c.if-k-run.true))
