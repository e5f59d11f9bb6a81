use Rattle.std.proofs.Common.{◌≡◌, ℕ, List, ap, sym, ◌∙◌, arith}
use Rattle.vb_host.specs.declared.seat.Seat.{Seat}
use Rattle.vb_host.specs.Seats.{newcomer, grown}
use Rattle.vb_host.specs.Lending.{each_at}
use Rattle.vb_host.proofs.Grants.{can_join, join_done, join_not}
use Rattle.vb_host.proofs.memory.join.Goals as goal

put_at : (m : ℕ) (x y : Seat) (xs ys : List Seat) → x ≡ y → xs ≡ ys → each_at m (λ _. x) xs ≡ each_at m (λ _. y) ys
put_at m x y xs ys e f = ap (λ (s : Seat). each_at m (λ _. s) xs) e ∙ ap (λ (zs : List Seat). each_at m (λ _. y) zs) f

pub pages_of-pages-requires : goal.pages_of-pages-requires
pages_of-pages-requires c = (can_join c.args.seats.now c.args.guest c.args.added (sym c.may_join.ensures ∙ c.if-may_join.true)).from

pub grow-requires-clause-place : goal.grow-requires-clause-place
grow-requires-clause-place c = (can_join c.args.seats.now c.args.guest c.args.added (sym c.may_join.ensures ∙ c.if-may_join.true)).place

pub grow-requires-clause-few : goal.grow-requires-clause-few
grow-requires-clause-few c = omega (arith, c.pages_of-pages.ensures, (can_join c.args.seats.now c.args.guest c.args.added (sym c.may_join.ensures ∙ c.if-may_join.true)).few)

pub returns-then-may_join : goal.returns-then-may_join
returns-then-may_join c = join_done c.args.seats.now c.seat_at.new.seats c.args.guest c.args.added (sym c.may_join.ensures ∙ c.if-may_join.true)
    (c.seat_at.ensures ∙ put_at c.args.added c.newcomer.result (newcomer 0) c.grow.new.seats _ c.newcomer.ensures
    (c.grow.ensures ∙ ap (λ (k : ℕ). each_at c.args.guest (grown k) c.args.seats.now) c.pages_of-pages.ensures))

pub returns-else-may_join : goal.returns-else-may_join
returns-else-may_join c = join_not c.args.seats.now c.args.guest c.args.added (sym c.may_join.ensures ∙ c.if-may_join.false)
