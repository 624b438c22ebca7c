-- To believe: the columns of a trace: a name, an event, and an answer where there is one.
use Rattle.std.specs.Prelude.{ℕ, ◌-◌, Bool, true, false, List, [], ◌∷◌, ◌++◌, codes, length, max, replicate}

-- at least n wide
abbrev pub padded : ℕ → List ℕ → List ℕ
padded n text = text ++ replicate (n - length text) 32

-- the column of names is as wide as the longest of them, and at least so wide
abbrev pub widest : ℕ → List (List ℕ) → ℕ
widest n [] = n
widest n (name ∷ names) = widest (max n (length name)) names

-- a name in its column, which is so wide
abbrev pub label : ℕ → List ℕ → List ℕ
label n name = padded n name ++ codes "  "

-- a row up to its answer; a row without an answer ends after its event
abbrev pub row : List ℕ → List ℕ → Bool → List ℕ
row l event true = l ++ (padded 32 event ++ codes "  ")
row l event false = l ++ (event ++ codes "\n")
