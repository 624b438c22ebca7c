-- To believe: the words of a Shared Data Block (Data Blocks, The Atomics Object).
use Rattle.std.specs.Prelude.{ℕ, List, slice_index_or, slice_set}

-- the word at this index, 0 where there is none
abbrev pub word : List ℕ → ℕ → ℕ
word ws i = slice_index_or ws i 0

-- the words with another one at this index
abbrev pub with_word : List ℕ → ℕ → ℕ → List ℕ
with_word ws i w = slice_set ws i w
