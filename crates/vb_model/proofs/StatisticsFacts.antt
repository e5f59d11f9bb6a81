-- Worked facts of the statistics buffer.
use Rattle.std.{proofs.Common.{[], map, refl, replicate, ◌++◌, ◌∷◌, ◌≡◌}, specs.Prelude.None}
use Rattle.std.specs.Prelude.{Some, ℕ}
use Rattle.vb_model.proofs.Samples.{PerformsJustSo, StepsJustSo}
use Rattle.vb_model.specs.declared.replies.Reply.TheVariants.{Asked, Done, Empty, Filled, NotUsed}
use Rattle.vb_model.specs.{Requests.BufferDone, declared.replies.Reply.TheVariants.{Ready, Taken}}
use Rattle.vb_model.specs.Requests.{BufferPosted, BufferTaken, Figures, NoBuffer, StatisticsBuffer}
use Rattle.vb_model.specs.declared.calls.Call.TheVariants.{Ask, Finish, Reap, Reset, Stats, Take}
use Rattle.vb_virtio.specs.declared.refusals.Refusal.TheVariants.{Busy, NoFeature, NoQueue}
use Rattle.vb_virtio.specs.declared.refusals.Refusal.TheVariants.{NotReady, NotTaken}
use Rattle.vb_virtio.specs.declared.statistics.LastStatistics.{LastStatistics}
use Rattle.vb_model.proofs.Samples.{down}
use Rattle.vb_model.{proofs.Samples.{mixed, ready, without_stats_vq}}
use Rattle.vb_model.specs.{Driver.figures, Guest.Guest, Life.Negotiates, Refusals.refusal_of}

-- ---- figures, in bytes: the free pages, and all pages, the reserved ones among them

-- no other place counts as free
figures_of_free_pages : map figures (ready ∷ mixed ∷ []) ≡ record { free = 196608; total = 262144 }
    ∷ record { free = 86016; total = 262144 } ∷ []
figures_of_free_pages = refl

-- ---- the buffer's way: posted, taken, done, posted

-- what a buffer was filled with earlier: 32 free pages
abbrev old : Figures
old = record { free = 131072; total = 262144 }

abbrev with_buffer : StatisticsBuffer → Guest
with_buffer buffer = record ready { buffer = buffer }

abbrev last_is : ℕ → ℕ → LastStatistics
last_is free total = record { free = Some free; total = Some total }

-- an initialisation with STATS_VQ fills the first buffer; it isn't read yet
buffer_at_init : Negotiates None 0x100000027 down Ready (record down {
  status = 15;
  features = 0x100000027;
  buffer = BufferPosted (record { free = 196608; total = 262144 });
})
buffer_at_init = (refl, refl)

no_buffer_without_stats_vq : Negotiates None 0x100000025 down Ready
    (record down { status = 15; features = 0x100000025; buffer = NoBuffer })
no_buffer_without_stats_vq = (refl, refl)

-- a take of queue 2 answers head 0, and the buffer's own figures are the last statistics, whatever
-- is free now
take_reads_the_buffer : PerformsJustSo (Take 2) (with_buffer (BufferPosted old)) [] (Taken 0)
    (record ready { buffer = BufferTaken old; last = last_is 131072 262144 })
take_reads_the_buffer = ((refl, (refl, refl)), λ reply new s. s.1)

take_replaces_the_last : PerformsJustSo (Take 2)
    (record ready { buffer = BufferPosted old; last = last_is 4096 8192 }) [] (Taken 0)
    (record ready { buffer = BufferTaken old; last = last_is 131072 262144 })
take_replaces_the_last = ((refl, (refl, refl)), λ reply new s. s.1)

-- nothing is posted: nothing happens
no_buffer_to_take : PerformsJustSo (Take 2) ready [] Empty ready
no_buffer_to_take = ((refl, (refl, refl)), λ reply new s. s.1)

done_buffer_is_not_taken : PerformsJustSo (Take 2) (with_buffer (BufferDone old)) [] Empty
    (with_buffer (BufferDone old))
done_buffer_is_not_taken = ((refl, (refl, refl)), λ reply new s. s.1)

-- the device uses the buffer; its figures and the last statistics stay
ask_uses_the_buffer : StepsJustSo
    (record ready { buffer = BufferTaken old; last = last_is 131072 262144 }) Ask [] Asked
    (record ready { buffer = BufferDone old; last = last_is 131072 262144 })
ask_uses_the_buffer = ((refl, (refl, refl)), λ reply new s. s.1)

-- the driver fills a used buffer with what is free now; the last statistics stay until it is taken
stats_fills_anew : StepsJustSo
    (record ready { buffer = BufferDone old; last = last_is 131072 262144 }) Stats [] Filled
    (record ready {
      buffer = BufferPosted (record { free = 196608; total = 262144 });
      last = last_is 131072 262144;
    })
stats_fills_anew = ((refl, (refl, refl)), λ reply new s. s.1)

-- a buffer that isn't used is left alone
no_buffer_to_fill : StepsJustSo ready Stats [] NotUsed ready
no_buffer_to_fill = ((refl, (refl, refl)), λ reply new s. s.1)

posted_buffer_is_not_filled : StepsJustSo (with_buffer (BufferPosted old)) Stats [] NotUsed
    (with_buffer (BufferPosted old))
posted_buffer_is_not_filled = ((refl, (refl, refl)), λ reply new s. s.1)

taken_buffer_is_not_filled : StepsJustSo (with_buffer (BufferTaken old)) Stats [] NotUsed
    (with_buffer (BufferTaken old))
taken_buffer_is_not_filled = ((refl, (refl, refl)), λ reply new s. s.1)

-- a reset empties the buffer and the last statistics
reset_forgets_statistics : StepsJustSo
    (record ready { buffer = BufferTaken old; last = last_is 131072 262144 }) Reset [] Done down
reset_forgets_statistics = ((refl, (refl, refl)), λ reply new s. s.1)

-- ---- refusals

-- readiness before features
stats_in_order : map (λ g. refusal_of g Stats)
    (down ∷ without_stats_vq ∷ record ready { features = 2 } ∷ [])
    ≡ Some NotReady ∷ Some NoFeature ∷ None ∷ []
stats_in_order = refl

-- readiness before the buffer; it is taken, or there is nothing to use, whatever the features are
asks_in_order : map (λ g. refusal_of g Ask) (record down { buffer = BufferTaken old } ∷ down
    ∷ without_stats_vq ∷ with_buffer (BufferPosted old) ∷ with_buffer (BufferDone old) ∷ [])
    ≡ replicate 2 (Some NotReady) ++ replicate 3 (Some NotTaken)
asks_in_order = refl

-- a take of queue 2: first whether the queue is there, then readiness, the feature, and whether the
-- buffer is taken
takes_in_order : map (λ g. refusal_of g (Take 2)) (record down { buffer = BufferTaken old }
    ∷ record without_stats_vq { buffer = BufferTaken old } ∷ record ready { features = 2 }
    ∷ with_buffer (BufferTaken old) ∷ with_buffer (BufferPosted old) ∷ with_buffer (BufferDone old)
    ∷ []) ≡ Some NotReady ∷ Some NoQueue ∷ None ∷ Some Busy ∷ None ∷ None ∷ []
takes_in_order = refl

-- queue 2 is neither finished nor reaped
no_finish_or_reap : refusal_of (with_buffer (BufferTaken old)) (Finish 2 0)
    ∷ refusal_of (with_buffer (BufferDone old)) (Reap 2) ∷ [] ≡ replicate 2 (Some NoQueue)
no_finish_or_reap = refl
