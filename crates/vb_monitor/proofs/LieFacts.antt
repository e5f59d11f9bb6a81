-- Which queues lie in memory, and over which regions a saved device goes on, worked out: of pages 0 to
-- 20, and 22 to 31.
use Rattle.std.proofs.Common.{◌≡◌, ◌∙◌, refl, arith, inl, inr, ℕ, ◌/◌, true, false, Ok, Err}
use Rattle.vb_core.specs.declared.{ring.Virtqueue.Virtqueue, device.Device.Device, saved.Saved.Saved}
use Rattle.vb_core.specs.declared.kinds.Kind.{Kind, TheVariants.{Inflate, Deflate, Statistics, Hint, Report}}
use Rattle.vb_core.specs.Devices.{placed, new_device, with_ring}
use Rattle.vb_monitor.specs.declared.{balloon.Balloon.Balloon, placing.RestoreDenial.TheVariants.Elsewhere}
use Rattle.vb_monitor.specs.Places.{is_memory, HasMemory, Lies, AllLie, FitsOver, RestoresBy}
use Rattle.vb_monitor.proofs.{PlaceLemmas.same_page, Samples.{Same, two, ring, settings, ready, a_buffer}}
use Rattle.vb_core.specs.Held.{nothing_held}

-- ---- the parts of a queue of eight: a table of 128 bytes, an available ring of 22, a used one of 70

in_page : (b a : ℕ) → b / 4096 ≡ a / 4096 → is_memory two a ≡ true → is_memory two b ≡ true
in_page b a e there = same_page two b a e ∙ there

pub in_low_pages : HasMemory two ring
in_low_pages = record {
  table = λ b from to. in_page b 0 (omega (arith, to)) refl;
  avail = λ b from to. in_page b 0x100 (omega (arith, from, to)) refl;
  used = λ b from to. in_page b 0x200 (omega (arith, from, to)) refl;
}

-- each ends where the hole begins
to_the_hole : HasMemory two (placed 0x14f80 0x14fea 0x14fba 8)
to_the_hole = record {
  table = λ b from to. in_page b 0x14fff (omega (arith, from, to)) refl;
  avail = λ b from to. in_page b 0x14fff (omega (arith, from, to)) refl;
  used = λ b from to. in_page b 0x14fff (omega (arith, from, to)) refl;
}

-- and each one byte further on
table_over_it : HasMemory two (placed 0x14f81 0x100 0x200 8) → ⊥
table_over_it h = let e : false ≡ true = h.table 0x15000 (omega arith) (omega arith) in absurd cc

available_over_it : HasMemory two (placed 0 0x14feb 0x200 8) → ⊥
available_over_it h = let e : false ≡ true = h.avail 0x15000 (omega arith) (omega arith) in absurd cc

used_over_it : HasMemory two (placed 0 0x100 0x14fbb 8) → ⊥
used_over_it h = let e : false ≡ true = h.used 0x15000 (omega arith) (omega arith) in absurd cc

-- or from the last byte of the hole on
table_from_it : HasMemory two (placed 0x15fff 0x100 0x200 8) → ⊥
table_from_it h = let e : false ≡ true = h.table 0x15fff (omega arith) (omega arith) in absurd cc

-- ---- each queue of a device

abbrev over_it : Virtqueue
over_it = placed 0 0x14feb 0x200 8

not_there : Lies two over_it → ⊥
not_there (inl e) = let none : Same 8 0 = e in omega arith
not_there (inr h) = available_over_it h

-- a queue of no place lies anywhere
no_place : Lies two (record over_it { size = 0 })
no_place = inl refl

all_lie : AllLie two ready
all_lie Inflate = inr in_low_pages
all_lie Deflate = inr in_low_pages
all_lie Statistics = inr in_low_pages
all_lie Hint = inr in_low_pages
all_lie Report = inr in_low_pages

-- the queue of any one kind over the hole
one_over_it : (kind : Kind) → AllLie two (with_ring kind over_it ready) → ⊥
one_over_it Inflate h = not_there (h Inflate)
one_over_it Deflate h = not_there (h Deflate)
one_over_it Statistics h = not_there (h Statistics)
one_over_it Hint h = not_there (h Hint)
one_over_it Report h = not_there (h Report)

-- ---- what was saved of a device

abbrev fresh : Balloon
fresh = record { device = new_device settings; held = nothing_held }

abbrev saved : Device → Saved
saved d = record { device = d; held = a_buffer 4 }

fits : FitsOver two fresh (saved ready)
fits = record { same_end = refl; lie = all_lie }

not_over_these : (kind : Kind) → FitsOver two fresh (saved (with_ring kind over_it ready)) → ⊥
not_over_these kind h = one_over_it kind h.lie

-- it is refused for the place of one queue, and nothing is changed
refused : (kind : Kind) →
    RestoresBy (Ok (saved (with_ring kind over_it ready))) two fresh fresh (Err Elsewhere)
refused kind = record { elsewhere = λ no. (refl, refl); goes_on = λ h. absurd (not_over_these kind h) }

goes_on_all_the_same : (kind : Kind) → (b : Balloon) →
    RestoresBy (Ok (saved (with_ring kind over_it ready))) two fresh b (Ok tt) → ⊥
goes_on_all_the_same kind b h = let e = (h.elsewhere (not_over_these kind)).0 in absurd cc
