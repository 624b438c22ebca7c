-- Names of variables, properties, keys and texts, as letters.
use Rattle.std.specs.Prelude.{ℕ, List, codes}

abbrev pub a : List ℕ
a = codes "a"

abbrev pub b : List ℕ
b = codes "b"

abbrev pub c : List ℕ
c = codes "c"

abbrev pub d : List ℕ
d = codes "d"

abbrev pub e : List ℕ
e = codes "e"

abbrev pub f : List ℕ
f = codes "f"

abbrev pub g : List ℕ
g = codes "g"

abbrev pub h : List ℕ
h = codes "h"

abbrev pub i : List ℕ
i = codes "i"

abbrev pub k : List ℕ
k = codes "k"

abbrev pub l : List ℕ
l = codes "l"

abbrev pub m : List ℕ
m = codes "m"

abbrev pub n : List ℕ
n = codes "n"

abbrev pub o : List ℕ
o = codes "o"

abbrev pub p : List ℕ
p = codes "p"

abbrev pub q : List ℕ
q = codes "q"

abbrev pub r : List ℕ
r = codes "r"

abbrev pub s : List ℕ
s = codes "s"

abbrev pub t : List ℕ
t = codes "t"

abbrev pub u : List ℕ
u = codes "u"

abbrev pub v : List ℕ
v = codes "v"

abbrev pub w : List ℕ
w = codes "w"

abbrev pub x : List ℕ
x = codes "x"

abbrev pub y : List ℕ
y = codes "y"

abbrev pub z : List ℕ
z = codes "z"
