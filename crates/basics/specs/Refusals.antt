-- The number, the layer and the place of each refusal.
use Rattle.std.specs.Prelude.{ℕ, List, ◌++◌, codes, decimal}
use Rattle.basics.specs.declared.refusal.Layer.{Layer}
use Rattle.basics.specs.declared.refusal.Layer.TheVariants.{Bytes, Types, Rows, Target, Run, Text}
use Rattle.basics.specs.declared.refusal.Refusal.{Refusal}
use Rattle.basics.specs.declared.refusal.Refusal.TheVariants.{TooShort, Version, LengthField, TypeCount, RowCount, RecordBounds, UnknownKind, RecordLength, Trailing, PartNotLower, RepeatedType, TooManyAtoms, NoSuchType, PremiseNotLower, PremiseTaken, NotFree, TypeMismatch, NoSuchGate, UnusedRow, TooManyWires, TooNarrow, TooSmall, GateNotTaken, NoSuchWire, AtHome, SeatEmpty, WireMisuse, AtCapacity, NotTaken, WireSets, ChannelEntry, BufferTooShort, OutOfMemory}
use Rattle.basics.specs.Gates.{code}

-- layers are numbered from 1
abbrev pub layer_number : Layer → ℕ
layer_number Bytes = 1
layer_number Types = 2
layer_number Rows = 3
layer_number Target = 4
layer_number Run = 5
layer_number Text = 6

abbrev pub number_of : Refusal → ℕ
number_of (TooShort n) = 1
number_of Version = 2
number_of LengthField = 1
number_of TypeCount = 3
number_of RowCount = 3
number_of (RecordBounds n) = 5
number_of (UnknownKind n) = 4
number_of (RecordLength n) = 5
number_of (Trailing n) = 6
number_of (PartNotLower t) = 7
number_of (RepeatedType t) = 8
number_of (TooManyAtoms t) = 9
number_of (NoSuchType r) = 10
number_of (PremiseNotLower r) = 11
number_of (PremiseTaken r) = 12
number_of (NotFree r) = 13
number_of (TypeMismatch r) = 14
number_of (NoSuchGate r) = 15
number_of (UnusedRow r) = 16
number_of (TooManyWires r) = 17
number_of (TooNarrow n) = 20
number_of (TooSmall n) = 21
number_of (GateNotTaken r) = 22
number_of (NoSuchWire w) = 30
number_of (AtHome w) = 31
number_of (SeatEmpty w) = 32
number_of (WireMisuse g) = 40
number_of (AtCapacity g) = 41
number_of (NotTaken g) = 42
number_of WireSets = 43
number_of (ChannelEntry n) = 44
number_of (BufferTooShort n) = 35
number_of (OutOfMemory l) = 70

abbrev pub layer_of : Refusal → ℕ
layer_of (TooShort n) = 1
layer_of Version = 1
layer_of LengthField = 1
layer_of TypeCount = 1
layer_of RowCount = 1
layer_of (RecordBounds n) = 1
layer_of (UnknownKind n) = 1
layer_of (RecordLength n) = 1
layer_of (Trailing n) = 1
layer_of (PartNotLower t) = 2
layer_of (RepeatedType t) = 2
layer_of (TooManyAtoms t) = 2
layer_of (NoSuchType r) = 3
layer_of (PremiseNotLower r) = 3
layer_of (PremiseTaken r) = 3
layer_of (NotFree r) = 3
layer_of (TypeMismatch r) = 3
layer_of (NoSuchGate r) = 3
layer_of (UnusedRow r) = 3
layer_of (TooManyWires r) = 3
layer_of (TooNarrow n) = 5
layer_of (TooSmall n) = 5
layer_of (GateNotTaken r) = 5
layer_of (NoSuchWire w) = 5
layer_of (AtHome w) = 5
layer_of (SeatEmpty w) = 5
layer_of (WireMisuse g) = 4
layer_of (AtCapacity g) = 4
layer_of (NotTaken g) = 4
layer_of WireSets = 4
layer_of (ChannelEntry n) = 4
layer_of (BufferTooShort n) = 6
layer_of (OutOfMemory l) = layer_number l

-- a byte's offset, a type's entry, a row, a wire, a gate's code, a number of bytes, wires or gate rows, or the field of the header that is at fault
abbrev pub place_of : Refusal → ℕ
place_of (TooShort n) = n
place_of Version = 0
place_of LengthField = 1
place_of TypeCount = 3
place_of RowCount = 4
place_of (RecordBounds n) = n
place_of (UnknownKind n) = n
place_of (RecordLength n) = n
place_of (Trailing n) = n
place_of (PartNotLower t) = t.0
place_of (RepeatedType t) = t.0
place_of (TooManyAtoms t) = t.0
place_of (NoSuchType r) = r.0
place_of (PremiseNotLower r) = r.0
place_of (PremiseTaken r) = r.0
place_of (NotFree r) = r.0
place_of (TypeMismatch r) = r.0
place_of (NoSuchGate r) = r.0
place_of (UnusedRow r) = r.0
place_of (TooManyWires r) = r.0
place_of (TooNarrow n) = n
place_of (TooSmall n) = n
place_of (GateNotTaken r) = r.0
place_of (NoSuchWire w) = w.0
place_of (AtHome w) = w.0
place_of (SeatEmpty w) = w.0
place_of (WireMisuse g) = code g
place_of (AtCapacity g) = code g
place_of (NotTaken g) = code g
place_of WireSets = 0
place_of (ChannelEntry n) = n
place_of (BufferTooShort n) = n
place_of (OutOfMemory l) = 0

-- a refusal as text: its number, its layer and its place
abbrev pub refusal_words : Refusal → List ℕ
refusal_words e = codes "refused " ++ (decimal (number_of e) ++ (codes " layer " ++ (decimal (layer_of e) ++ (codes " place " ++ decimal (place_of e)))))
