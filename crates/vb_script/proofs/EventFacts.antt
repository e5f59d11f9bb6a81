-- What each line of a script says, and which lines are bad, worked out.
use Rattle.std.proofs.Common.{◌≡◌, ℕ, true, false, List, [], ◌∷◌, Some, None, Ok, Err, codes, refl}
use Rattle.std.proofs.Common.{map, length}
use Rattle.{std.specs.Prelude.{Option, replicate}, vb_script.specs.Values.{features_of, bytes_of, positive_of}}
use Rattle.vb_script.specs.Values.{value_in}
use Rattle.{hex.specs.Hex.{decode_pairs, decode_of}, vb_model.specs.declared.places.Place.TheVariants.Stranded}
use Rattle.vb_model.specs.declared.calls.Call.TheVariants.{Init, Reset, Alloc}
use Rattle.vb_model.specs.declared.calls.Call.TheVariants.{Free, Read, Write, Scribble, Inflate}
use Rattle.vb_model.specs.declared.calls.Call.TheVariants.{Deflate, Oom, Report, Stats, Reap, Take}
use Rattle.vb_model.specs.declared.calls.Call.TheVariants.{Work, Finish, Serve, Sweep, Ask, SetTarget}
use Rattle.vb_model.specs.declared.calls.Query.TheVariants.{Places, PagesAt, PagesBallooned}
use Rattle.vb_model.specs.declared.calls.Query.TheVariants.{Balloon, Memory, Backing}
use Rattle.vb_model.specs.declared.calls.Event.{Event, TheVariants.{Guest, Query, Balance, Frames}}
use Rattle.vb_model.specs.declared.calls.Event.TheVariants.{Plug, Unplug, Restart}
use Rattle.vb_script.specs.{declared.lines.LineFault.TheVariants.Bad, Words.{number_of, words_of}}
use Rattle.vb_script.specs.{declared.lines.Pace.TheVariants.{Immediate, Paced, Monitor}, Events.{event_of, is_call}}
use Rattle.vb_script.specs.{Lines.{host_of, spare_of, is_paced}, Names.{form_of, pages_query_of, pace_of}}

abbrev says : List ℕ → Option Event
says line = event_of (words_of line)

host_and_processors : says (codes "plug 64 8 1") ∷ says (codes "unplug 3") ∷ says (codes "restart 3")
    ∷ says (codes "balance 16") ∷ says (codes "frames") ∷ says (codes "alloc 3 1 2")
    ∷ says (codes "free 3 1 20 2") ∷ says (codes "read 3 20 5 1") ∷ says (codes "write 3 20 5 aB")
    ∷ says (codes "scribble 3 20 5 0f10") ∷ []
    ≡ Some (Plug (record { pages = 64; queue_size = 8; processors = 1 })) ∷ Some (Unplug 3)
    ∷ Some (Restart 3) ∷ Some (Balance 16) ∷ Some Frames ∷ Some (Guest 3 (Alloc 1 2))
    ∷ Some (Guest 3 (Free 1 20 2)) ∷ Some (Guest 3 (Read 20 5 1)) ∷ Some (Guest 3 (Write 20 5 (171 ∷ [])))
    ∷ Some (Guest 3 (Scribble 20 5 (15 ∷ 16 ∷ []))) ∷ []
unfolding form_of number_of positive_of bytes_of decode_pairs
host_and_processors = refl

drivers : says (codes "init 3") ∷ says (codes "init 3 0000000100000001") ∷ says (codes "reset 3")
    ∷ says (codes "inflate 3 7") ∷ says (codes "deflate 3 7") ∷ says (codes "oom 3 7")
    ∷ says (codes "report 3 16") ∷ says (codes "stats 3") ∷ says (codes "reap 3 1") ∷ []
    ≡ Some (Guest 3 (Init 4294967335)) ∷ Some (Guest 3 (Init 4294967297)) ∷ Some (Guest 3 Reset)
    ∷ Some (Guest 3 (Inflate 7)) ∷ Some (Guest 3 (Deflate 7)) ∷ Some (Guest 3 (Oom 7))
    ∷ Some (Guest 3 (Report 16)) ∷ Some (Guest 3 Stats) ∷ Some (Guest 3 (Reap 1)) ∷ []
unfolding form_of number_of features_of decode_pairs
drivers = refl

devices_and_questions : says (codes "take 3 4") ∷ says (codes "work 3") ∷ says (codes "finish 3 1 2")
    ∷ says (codes "serve 3 4") ∷ says (codes "sweep 3 20") ∷ says (codes "ask 3") ∷ says (codes "target 3 5") ∷ says (codes "places 3")
    ∷ says (codes "pages 3 stranded") ∷ says (codes "pages 3 ballooned") ∷ says (codes "balloon 3")
    ∷ says (codes "memory 3") ∷ says (codes "backing 3 20") ∷ []
    ≡ Some (Guest 3 (Take 4)) ∷ Some (Guest 3 Work) ∷ Some (Guest 3 (Finish 1 2))
    ∷ Some (Guest 3 (Serve 4)) ∷ Some (Guest 3 (Sweep 20)) ∷ Some (Guest 3 Ask) ∷ Some (Guest 3 (SetTarget 5)) ∷ Some (Query 3 Places)
    ∷ Some (Query 3 (PagesAt Stranded)) ∷ Some (Query 3 PagesBallooned) ∷ Some (Query 3 Balloon)
    ∷ Some (Query 3 Memory) ∷ Some (Query 3 (Backing 20)) ∷ []
unfolding form_of number_of pages_query_of
devices_and_questions = refl

-- an unknown word, one in another case, a word too many or too few, two spaces, a tab, a sign, a number
-- past 32 bits, no byte, half a byte, nothing read, 15 digits of features, a place that isn't asked for
bad : map says (codes "peek 3" ∷ codes "Unplug 3" ∷ codes "unplug 3 1" ∷ codes "unplug" ∷ codes "unplug  3"
    ∷ codes "unplug 3 " ∷ codes "unplug +3" ∷ codes "unplug 4294967296" ∷ codes "write 3 20 5 "
    ∷ codes "write 3 20 5 abc" ∷ codes "read 3 20 5 0" ∷ codes "init 3 000000010000001"
    ∷ codes "pages 3 reserved" ∷ [])
    ≡ None ∷ None ∷ None ∷ None ∷ None ∷ None ∷ None ∷ None ∷ None ∷ None ∷ None ∷ None ∷ None ∷ []
unfolding form_of number_of positive_of bytes_of features_of pages_query_of decode_pairs
bad = refl

-- a word too many of each form, and one too few
word_too_many : map says (codes "frames 3" ∷ codes "init 3 0000000100000001 1" ∷ codes "pages 3 free 1"
    ∷ codes "inflate 3 7 1" ∷ codes "alloc 3 1 2 1" ∷ codes "free 3 1 20 2 1" ∷ codes "read 3 20 5 1 1"
    ∷ codes "write 3 20 5 aB aB" ∷ []) ≡ replicate 8 None
unfolding form_of number_of features_of bytes_of pages_query_of decode_pairs
word_too_many = refl

word_too_few : map says (codes "init" ∷ codes "pages" ∷ codes "pages 3" ∷ codes "inflate 3"
    ∷ codes "alloc 3 1" ∷ codes "free 3 1 20" ∷ codes "read 3 20 5" ∷ codes "write 3 20 5" ∷ [])
    ≡ replicate 8 None
unfolding form_of number_of
word_too_few = refl

-- a space before the first word
space_first : (says (codes " unplug 3") ≡ None) × (host_of (words_of (codes " host 8")) ≡ None)
unfolding form_of number_of
space_first = (refl, refl)

-- each number may be 0, but for how many bytes are read
zeros : map says (codes "unplug 0" ∷ codes "inflate 0 0" ∷ codes "alloc 0 0 0" ∷ codes "free 0 0 0 0"
    ∷ codes "read 0 0 0 1" ∷ codes "write 0 0 0 00" ∷ [])
    ≡ Some (Unplug 0) ∷ Some (Guest 0 (Inflate 0)) ∷ Some (Guest 0 (Alloc 0 0)) ∷ Some (Guest 0 (Free 0 0 0))
    ∷ Some (Guest 0 (Read 0 0 1)) ∷ Some (Guest 0 (Write 0 0 (0 ∷ []))) ∷ []
unfolding form_of number_of positive_of bytes_of decode_pairs
zeros = refl

numbers : map number_of (codes "0" ∷ codes "007" ∷ codes "4294967295" ∷ codes "" ∷ codes "1e3"
    ∷ codes "1/" ∷ codes ":1" ∷ [])
    ≡ Some 0 ∷ Some 7 ∷ Some 4294967295 ∷ None ∷ None ∷ None ∷ None ∷ []
unfolding number_of
numbers = refl

hosts : map (λ line. host_of (words_of line)) (codes "host 1" ∷ codes "host 65536" ∷ codes "host 0"
    ∷ codes "host 65537" ∷ codes "host 8 8" ∷ codes "frames" ∷ [])
    ≡ Some 1 ∷ Some 65536 ∷ None ∷ None ∷ None ∷ None ∷ []
unfolding number_of
hosts = refl

spares : map (λ line. spare_of (words_of line)) (codes "spare immediate" ∷ codes "spare paced"
    ∷ codes "spare monitor" ∷ codes "frames" ∷ codes "spare slow" ∷ codes "spare monitors"
    ∷ codes "spare" ∷ codes "spare paced paced" ∷ [])
    ≡ Ok (Some Immediate) ∷ Ok (Some Paced) ∷ Ok (Some Monitor) ∷ Ok None ∷ Err Bad ∷ Err Bad ∷ Err Bad
    ∷ Err Bad ∷ []
unfolding pace_of
spares = refl

-- a device that a VMM's notice serves isn't paced
paces : map is_paced (Immediate ∷ Paced ∷ Monitor ∷ []) ≡ false ∷ true ∷ false ∷ []
paces = refl

-- no word says nothing, and only a call on a guest is a call
no_words : (host_of [] ≡ None) × (spare_of [] ≡ Err Bad) × (event_of [] ≡ None)
no_words = (refl, refl, refl)

calls : map is_call (None ∷ Some (Guest 3 Stats) ∷ Some (Query 3 Places) ∷ Some Frames ∷ [])
    ≡ false ∷ true ∷ false ∷ false ∷ []
calls = refl

-- a page of bytes are the most
most_bytes : (word : List ℕ) → (length word ≡ 8192 → bytes_of word ≡ value_in (decode_of word))
    × (length word ≡ 8194 → bytes_of word ≡ None)
unfolding bytes_of
most_bytes word = (λ long. rw long refl, λ long. rw long refl)
