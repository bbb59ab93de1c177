-- Gate lists: the gates that each wire met since begin, in order.
use Rattle.std.specs.Prelude.{◌≡◌, ℕ, zero, suc, ◌<◌, min, cond, List, [], ◌∷◌, ◌++◌, codes, decimal, map, length, take, replicate, filter, slice_index_or}
use Rattle.std.specs.List.{flat_map}
use Rattle.basics.specs.declared.gate.Gate.{Gate}
use Rattle.basics.specs.declared.numbers.Wire.{Wire}
use Rattle.basics.specs.Gates.{arity, word}
use Rattle.target.specs.Interface.{View, numbers_of, shares}
use Rattle.gate_list.specs.declared.Applied.{Applied}

-- a gate with its wires in the order of its seats
pub record Met : Type 0 where
  pub gate : Gate
  pub wires : List ℕ

-- for each of 32 wires the gates it met since begin, in order, and the sets of begin
pub record State : Type 0 where
  pub met : List (List Met)
  pub used : ℕ
  pub given : ℕ
  pub ones : ℕ

-- the gate that a record stands for: it has as many wires as the gate has seats
abbrev pub met_of : Applied → Met
met_of a = record { gate = a.gate; wires = take (arity a.gate) (numbers_of a.wires) }

-- a gate and its wires as text: its word, and a space before each wire
abbrev pub met_words : Met → List ℕ
met_words m = word m.gate ++ flat_map (λ w. codes " " ++ decimal w) m.wires

-- the wires of a record: those of its gate, and then wire 0
abbrev pub seats_of : List Wire → List Wire
seats_of ws = take 3 (ws ++ replicate 3 (record { 0 = 0 }))

-- a gate as it is written down
abbrev pub applied_of : Gate → List Wire → Applied
applied_of g ws = record { gate = g; wires = seats_of ws }

-- the gates of the first n records
unfoldable pub recorded : List Applied → ℕ → List Met
recorded items n = map met_of (take n items)

-- the gates on wire w, in order
abbrev pub meetings : ℕ → List Met → List Met
meetings w ms = filter (λ m. shares w m.wires) ms

-- the gates on each of n wires, from wire w on
unfoldable pub by_wire : ℕ → ℕ → List Met → List (List Met)
by_wire w zero ms = []
by_wire w (suc n) ms = meetings w ms ∷ by_wire (suc w) n ms

-- a gate comes to the end of the list of each of its wires, and the other lists stay; the first list is that of wire w
unfoldable pub meets : Met → ℕ → List (List Met) → List (List Met)
meets m w [] = []
meets m w (l ∷ ls) = cond (shares w m.wires) (l ++ m ∷ []) l ∷ meets m (suc w) ls

-- the state after some gates
abbrev pub state_of : List Met → ℕ → ℕ → ℕ → State
state_of ms used given ones = record { met = by_wire 0 32 ms; used = used; given = given; ones = ones }

-- begin empties all lists
abbrev pub emptied : ℕ → ℕ → ℕ → State → State
emptied used given ones s = record { met = replicate 32 []; used = used; given = given; ones = ones }

-- a gate is met by each of its wires
abbrev pub lengthened : Gate → List ℕ → State → State
lengthened g ws s = record { met = meets (record { gate = g; wires = ws }) 0 s.met; used = s.used; given = s.given; ones = s.ones }

-- as many gates as there are records, and at most 65,535
abbrev pub room : List Applied → ℕ
room items = min (length items) 65535

-- what is seen of a list with some records, of which the first n are in use
abbrev pub list_view : List Applied → ℕ → ℕ → ℕ → ℕ → View State
list_view items n used given ones = record { state = state_of (recorded items n) used given ones; used = used; count = n; width = 32; capacity = room items }

-- a gate comes last on each of its wires, and the other wires keep theirs
abbrev pub MeetsEach : Type 0
MeetsEach =
    (g : Gate) (ws : List ℕ) (s : State) (w : ℕ) → w < length s.met →
    slice_index_or (lengthened g ws s).met w [] ≡ cond (shares w ws) (slice_index_or s.met w [] ++ record { gate = g; wires = ws } ∷ []) (slice_index_or s.met w [])

-- wire w of a list with some records has met those of them that name it, in their order
abbrev pub MetByRecords : Type 0
MetByRecords = (ms : List Met) (used given ones w : ℕ) → w < 32 → slice_index_or (state_of ms used given ones).met w [] ≡ meetings w ms
