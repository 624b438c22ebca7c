-- Internal: the blocks of a ledger as they are kept.
use Rattle.std.specs.Prelude.{ℕ, ◌+◌, ◌-◌, ◌==◌, List, [], Option, Some, None, unwrap_or, slice_index_or, slice_set, if◌then◌else◌}
use Rattle.es_block.specs.Words.{with_word}
use Rattle.es_ledger.specs.declared.blocks.Counted.{Counted}

-- by number, from 1, and for how many more there is room
pub record BlocksView : Type 0 where
  pub all : List Counted
  pub room : ℕ

abbrev pub no_block : Counted
no_block = record { words = None; tickets = 0 }

abbrev pub block_at : List Counted → ℕ → Counted
block_at all b = if b == 0 then no_block else slice_index_or all (b - 1) no_block

-- how many tickets block b has
abbrev pub tickets_at : List Counted → ℕ → ℕ
tickets_at all b = (block_at all b).tickets

-- its words, none where it was released
abbrev pub words_at : List Counted → ℕ → List ℕ
words_at all b = unwrap_or (block_at all b).words []

-- the words with this one, if there is one, at an index
abbrev pub words_written : List ℕ → ℕ → Option ℕ → List ℕ
words_written ws i None = ws
words_written ws i (Some w) = with_word ws i w

-- all blocks with other words of block b
abbrev pub rewritten : List Counted → ℕ → List ℕ → List Counted
rewritten all b ws = slice_set all (b - 1) (record { words = Some ws; tickets = tickets_at all b })

-- all blocks with this word, if there is one, at an index of block b
abbrev pub with_written : List Counted → ℕ → ℕ → Option ℕ → List Counted
with_written all b i None = all
with_written all b i (Some w) = rewritten all b (with_word (words_at all b) i w)

abbrev pub with_less : Counted → Counted
with_less c = if c.tickets == 1 then no_block else record { words = c.words; tickets = c.tickets - 1 }

-- all blocks with one ticket less of block b
abbrev pub lost : List Counted → ℕ → List Counted
lost all b = slice_set all (b - 1) (with_less (block_at all b))

-- all blocks with one ticket more of block b
abbrev pub gained : List Counted → ℕ → List Counted
gained all b = slice_set all (b - 1) (record { words = (block_at all b).words; tickets = tickets_at all b + 1 })
