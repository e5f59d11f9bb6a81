-- A guest of a host begins a new life, or goes.
use Rattle.std.proofs.Common.{Bool, List, None, Option, Some, ap, arith, cond, false}
use Rattle.{std.proofs.Common.{is_some, refl, sym, ℕ, ◌+◌, ◌≡◌}, vb_slot.proofs.Fresh.backs_none}
use Rattle.slab.specs.Slab.{Slab, Updates, get, slab_len, with_value}
use Rattle.vb_model.specs.{Guest.Guest, HostEvents.WorldStep, World.{World, guest_at, put_guest}}
use Rattle.vb_model.specs.{Life.after_restart, declared.calls.Event.TheVariants.{Restart, Unplug}}
use Rattle.vb_model.specs.declared.replies.Reply.TheVariants.{Done, Refused}
use Rattle.vb_virtio.specs.declared.refusals.Refusal.TheVariants.{NoGuest}
use Rattle.vb_model.specs.HostRefusals.{plugged_count}
use Rattle.vb_slot.specs.{Steps.{AllReturn, backing_count}, Supply.{Supply, nothing}}
use Rattle.vb_world.proofs.Calls.{guest_of, host_updated, host_with, no_guest}
use Rattle.vb_world.specs.Hosts.{IsHost, backing_at}
use Rattle.vb_world.proofs.{KeeperFrames.{KeeperMoves, moves_asked}, Guests.count-with}

-- the keeper's frames that came back are those that back the guest's pages
pub returned : (s1 s2 : Supply) (g : Guest) → s1.keeps ≡ false → AllReturn s1 s2 g
    → KeeperMoves s1.out s2.out nothing (λ f. backing_count f g)
returned s1 s2 g asked moves = moves_asked s1 s2 nothing (λ f. backing_count f g) asked moves

-- a new life has no frames
fresh_moves : (out out' : List Bool) (g : Guest)
    → KeeperMoves out out' nothing (λ f. backing_count f g)
    → KeeperMoves out out' (λ f. backing_count f (after_restart g)) (λ f. backing_count f g)
fresh_moves out out' g moves = record {
  balance = λ f. omega (arith, moves.balance f, backs_none f g.config.pages);
  count = moves.count;
}

module _ {S D : Type 0} (Stand : S → Guest → Type 0) (Spare : D → Bool → Type 0) (slots : Slab S)
    (out : List Bool) (devices : List D) (w : World) where
  pub restarted : (n : ℕ) (s s' : S) (out' : List Bool) → IsHost Stand Spare slots out devices w
      → get slots n ≡ Some s → ((g : Guest) → Stand s g → Stand s' (after_restart g)
      × KeeperMoves out out' nothing (λ f. backing_count f g))
      → (new : World) × IsHost Stand Spare (with_value slots n s') out' devices new
      × WorldStep w (Restart n) Done new
  restarted n s s' out' host e life =
      let has = guest_of Stand Spare slots out devices w n s host e in
      let (stands, moves) = life has.guest has.stands in (
        put_guest n (Some (after_restart has.guest)) w,
        host_with Stand Spare slots out devices w n s s' has.guest (after_restart has.guest) out'
            host e has.there stands (fresh_moves out out' has.guest moves),
        rw has.there (refl, refl),
      )

  pub not_restarted : (n : ℕ) → IsHost Stand Spare slots out devices w → get slots n ≡ None
      → WorldStep w (Restart n) (Refused NoGuest) w
  not_restarted n host e = rw (no_guest Stand Spare slots out devices w n host e) (refl, refl)

  one_less : (n : ℕ) (g : Guest) → guest_at w.guests n ≡ Some g
      → plugged_count (put_guest n None w) + 1 ≡ plugged_count w
  one_less n g there = let was = ap {B = ℕ} (λ (x : Option Guest). cond (is_some x) 1 0) there in
      omega (arith, count-with n None w.guests, was)

  pub unplugged : (n : ℕ) (s : S) (slots' : Slab S) (out' : List Bool)
      → IsHost Stand Spare slots out devices w → get slots n ≡ Some s
      → Updates slots slots' n None → slab_len slots' + 1 ≡ slab_len slots
      → slots'.vacant_key ≡ n → slots'.capacity ≡ slots.capacity
      → ((g : Guest) → Stand s g → KeeperMoves out out' nothing (λ f. backing_count f g))
      → (new : World) × IsHost Stand Spare slots' out' devices new × WorldStep w (Unplug n) Done new
  unplugged n s slots' out' host e new len key capacity back =
      let has = guest_of Stand Spare slots out devices w n s host e in
      let moves = back has.guest has.stands in
      let less = one_less n has.guest has.there in (
        record (put_guest n None w) { vacated = Some n },
        host_updated Stand Spare slots out devices w n slots' None None out' (Some n) host new tt
            (omega (arith, len, less, host.count)) (omega (arith, less, host.few)) capacity (sym key)
            (record {
              balance = λ f.
                  let was = ap (backing_at f) has.there in omega (arith, moves.balance f, was);
              count = moves.count;
            }),
        rw has.there (refl, refl),
      )

  pub not_unplugged : (n : ℕ) → IsHost Stand Spare slots out devices w → get slots n ≡ None
      → WorldStep w (Unplug n) (Refused NoGuest) w
  not_unplugged n host e = rw (no_guest Stand Spare slots out devices w n host e) (refl, refl)
