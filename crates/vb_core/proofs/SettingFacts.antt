-- The limits of settings, as plain numbers.
use Rattle.std.proofs.Common.{◌≡◌, ℕ, true, false, [], ◌∷◌, map, refl}
use Rattle.vb_core.{proofs.Examples.offering, specs.declared.settings.Settings.Settings}
use Rattle.vb_core.specs.Settings.{are_settings, memory_pages, needs_must_tell, skips, holds_chains, longest_request, discards_hints}
use Rattle.vb_core.specs.declared.kinds.Kind.TheVariants.{Inflate, Deflate, Statistics, Hint, Report}
use Rattle.vb_core.specs.declared.settings.TheConstants.{MEMORY_LIMIT}
use Rattle.vb_core.specs.declared.report.TheConstants.{MAX_REPORT_RUNS}

-- memory ends below 2^44
memory_is : MEMORY_LIMIT ≡ 17592186044416
memory_is = refl

-- runs that a report's chain may have
runs_are : MAX_REPORT_RUNS ∷ [] ≡ 32 ∷ []
runs_are = refl

abbrev ending : ℕ → Settings
ending memory_end = record (offering 0x100000027) { memory_end = memory_end }

ends : map (λ memory_end. are_settings (ending memory_end)) (0 ∷ 1 ∷ 17592186044415 ∷ 17592186044416 ∷ [])
    ≡ true ∷ true ∷ true ∷ false ∷ []
ends = refl

-- whole pages, and what isn't 0
settled : memory_pages (ending 12287) ∷ memory_pages (ending 12288) ∷ [] ≡ 2 ∷ 3 ∷ []
settled = refl

-- numbers of a request: 2^20 at least, and as many as memory has pages
longest : map (λ memory_end. longest_request (ending memory_end))
    (0 ∷ 0x100000000 ∷ 0x100000fff ∷ 0x100001000 ∷ 0xfffffffffff ∷ 0x100000000000 ∷ [])
    ≡ 0x100000 ∷ 0x100000 ∷ 0x100000 ∷ 0x100001 ∷ 0xffffffff ∷ 0xffffffff ∷ []
longest = refl

switches : needs_must_tell (record (ending 8192) { needs_must_tell = 7 }) ∷ needs_must_tell (ending 8192)
    ∷ skips (record (ending 8192) { skips_bad_pages = 7 }) ∷ skips (ending 8192)
    ∷ discards_hints (record (ending 8192) { discards_hints = 7 }) ∷ discards_hints (ending 8192) ∷ []
    ≡ true ∷ false ∷ true ∷ false ∷ true ∷ false ∷ []
switches = refl

-- which chains are held: statistics always, deflates by the setting, and no others
held : map (λ kind. holds_chains kind (record (ending 8192) { holds_deflates = 7 }))
    (Inflate ∷ Deflate ∷ Statistics ∷ Hint ∷ Report ∷ []) ≡ false ∷ true ∷ true ∷ false ∷ false ∷ []
held = refl

not_held : map (λ kind. holds_chains kind (ending 8192)) (Inflate ∷ Deflate ∷ Statistics ∷ Hint ∷ Report ∷ [])
    ≡ false ∷ false ∷ true ∷ false ∷ false ∷ []
not_held = refl
