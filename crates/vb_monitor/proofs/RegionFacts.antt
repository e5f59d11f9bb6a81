-- Places, parts of runs and parts of pieces, worked out.
use Rattle.std.proofs.Common.{◌≡◌, refl, true, false, List, [], ◌∷◌, Some, None}
use Rattle.vb_core.specs.declared.kinds.Kind.TheVariants.{Inflate, Deflate, Report}
use Rattle.vb_monitor.specs.{declared.regions.Region.Region, Regions.{is_region, spot, cuts_of}}
use Rattle.vb_monitor.specs.{Giving.cuts_for, Pieces.all_parts}

-- pages 0 to 20, and, one page on, pages 22 to 31
abbrev low : Region
low = record { guest = 0; length = 0x15000; in_file = 0 }

abbrev high : Region
high = record { guest = 0x16000; length = 0xa000; in_file = 0x100000 }

abbrev two : List Region
two = low ∷ high ∷ []

-- ---- places

first : spot two 0x102 2 ≡ Some (record { region = 0; offset = 0x102 })
first = refl

second : spot two 0x16000 2 ≡ Some (record { region = 1; offset = 0 })
second = refl

last_byte : spot two 0x1ffff 1 ≡ Some (record { region = 1; offset = 0x9fff })
last_byte = refl

after_all : spot two 0x1ffff 2 ≡ None
after_all = refl

over_an_end : spot two 0x14fff 2 ≡ None
over_an_end = refl

in_a_hole : spot two 0x15000 1 ≡ None
in_a_hole = refl

-- a region that isn't whole pages has no byte, nor one past the limit of memory
half_a_page : spot (record low { length = 0x800 } ∷ []) 0 2 ≡ None
half_a_page = refl

begun_in_a_page : is_region (record low { guest = 0x10 }) ≡ false
begun_in_a_page = refl

past_the_limit : is_region (record low { guest = 0x100000000000 }) ≡ false
past_the_limit = refl

up_to_the_limit : is_region (record low { guest = 0xffffffeb000 }) ≡ true
up_to_the_limit = refl

one_page_further : is_region (record low { guest = 0xffffffec000 }) ≡ false
one_page_further = refl

-- an empty one may be at the limit, and not past it
empty_at_the_limit : is_region (record low { guest = 0x100000000000; length = 0 }) ≡ true
empty_at_the_limit = refl

empty_past_the_limit : is_region (record low { guest = 0x100000001000; length = 0 }) ≡ false
empty_past_the_limit = refl

-- its file goes up to 2^62 bytes
up_to_the_files_limit : is_region (record low { in_file = 0x4000000000000000 }) ≡ true
up_to_the_files_limit = refl

past_the_files_limit : is_region (record low { in_file = 0x4000000000000001 }) ≡ false
past_the_files_limit = refl

-- all bytes of a region, and one more
all_of_it : spot two 0 0x15000 ≡ Some (record { region = 0; offset = 0 })
all_of_it = refl

one_byte_more : spot two 0 0x15001 ≡ None
one_byte_more = refl

-- ---- parts of runs

-- a region that isn't whole pages has none
of_no_region : cuts_of (record low { length = 0x1800 } ∷ []) (record { first = 0; count = 1 } ∷ []) ≡ []
of_no_region = refl

-- pages 20 to 23 lie in both regions, with a hole between; page 5 in the first; 21 in none
over_the_hole : cuts_of two (record { first = 20; count = 4 } ∷ record { first = 5; count = 1 }
    ∷ []) ≡ record { region = 0; offset = 0x14000; in_file = 0x14000; length = 0x1000 }
    ∷ record { region = 1; offset = 0; in_file = 0x100000; length = 0x2000 }
    ∷ record { region = 0; offset = 0x5000; in_file = 0x5000; length = 0x1000 } ∷ []
over_the_hole = refl

within_the_second : cuts_of two (record { first = 24; count = 2 } ∷ []) ≡
    record { region = 1; offset = 0x2000; in_file = 0x102000; length = 0x2000 } ∷ []
within_the_second = refl

all_in_a_hole : cuts_of two (record { first = 21; count = 1 } ∷ []) ≡ []
all_in_a_hole = refl

past_the_end : cuts_of two (record { first = 31; count = 9 } ∷ []) ≡
    record { region = 1; offset = 0x9000; in_file = 0x109000; length = 0x1000 } ∷ []
past_the_end = refl

no_page : cuts_of two (record { first = 5; count = 0 } ∷ []) ≡ []
no_page = refl

-- inflates and reports are discarded, deflates aren't
of_a_deflate : cuts_for Deflate false two (record { first = 5; count = 1 } ∷ []) ≡ []
of_a_deflate = refl

of_an_inflate : cuts_for Inflate false two (record { first = 5; count = 1 } ∷ []) ≡
    record { region = 0; offset = 0x5000; in_file = 0x5000; length = 0x1000 } ∷ []
of_an_inflate = refl

of_a_report : cuts_for Report false two (record { first = 5; count = 1 } ∷ []) ≡
    record { region = 0; offset = 0x5000; in_file = 0x5000; length = 0x1000 } ∷ []
of_a_report = refl

-- but for those that are kept
of_a_kept_report : cuts_for Report true two (record { first = 5; count = 1 } ∷ []) ≡ []
of_a_kept_report = refl

of_a_kept_inflate : cuts_for Inflate true two (record { first = 5; count = 1 } ∷ []) ≡ []
of_a_kept_inflate = refl

-- ---- parts of pieces

in_one_page : all_parts (record { addr = 4080; len = 16; writable = false } ∷ []) ≡
    record { address = 4080; plus = 0; length = 16 } ∷ []
in_one_page = refl

over_a_page : all_parts (record { addr = 4090; len = 10; writable = false } ∷ []) ≡
    record { address = 4090; plus = 0; length = 6 } ∷ record { address = 4090; plus = 6; length = 4 } ∷ []
over_a_page = refl

empty : all_parts (record { addr = 4090; len = 0; writable = false } ∷ []) ≡ []
empty = refl

in_order : all_parts (record { addr = 0; len = 0; writable = false }
    ∷ record { addr = 8192; len = 4; writable = false }
    ∷ record { addr = 16; len = 8; writable = false } ∷ []) ≡
    record { address = 8192; plus = 0; length = 4 } ∷ record { address = 16; plus = 0; length = 8 } ∷ []
in_order = refl
