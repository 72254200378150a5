-- What a decoder shows: the readings taken and decided, the cells of the undecided paths, and the ring.
use Rattle.std.specs.Prelude.{ℕ, List}
use Rattle.survivors.specs.Survivors as tree
use Rattle.decoder.specs.declared.Decoder.{Decoder}

-- The places of the ring.
abbrev pub PLACES : ℕ
PLACES = 4096

-- How many readings are taken.
abbrev pub taken : Decoder → ℕ
taken d = tree.taken d.tree

-- How many of them, from the first on, are decided.
abbrev pub decided : Decoder → ℕ
decided d = tree.decided d.tree

-- The mode m lies at the undecided reading i on the path of some tip.
abbrev pub OnPath : Decoder → ℕ → ℕ → Type 0
OnPath d i m = tree.OnPath d.tree i m

-- The modes that are ready to be drawn, and older ones.
abbrev pub ring : Decoder → List ℕ
ring d = d.ring
