-- What the byte of an entry says, and which front part of a list of entries is counted.
use Rattle.std.specs.Prelude.{◌≡◌, ℕ, zero, suc, ◌-◌, ◌/◌, ◌%◌, Bool, true, cond, ◌&&◌, ◌||◌, List, [], ◌∷◌, ◌++◌, take, ◌==◌, nat_lt}
use Rattle.std.specs.List.{list_all}

-- bits 0 to 2 are the subtype: 0 I, 1 P, 2 B0, 3 B1, 4 the show of an existing frame
abbrev pub subtype_of : ℕ → ℕ
subtype_of x = x % 8

-- an entry of subtype k
abbrev pub is_kind : ℕ → ℕ → Bool
is_kind k x = subtype_of x == k

-- subtypes 0 to 3 are frames
abbrev pub is_frame : ℕ → Bool
is_frame x = nat_lt (subtype_of x) 4

-- bit 3 says that the entry is shown
abbrev pub is_shown : ℕ → Bool
is_shown x = x / 8 % 2 == 1

-- the rest of the bits are 0, the subtype is at most 4, and subtype 4 is shown
abbrev pub is_lawful : ℕ → Bool
is_lawful x = nat_lt x 16 && (is_frame x || (is_kind 4 x && is_shown x))

-- the same, as a fact
abbrev pub Lawful : ℕ → Type 0
Lawful x = is_lawful x ≡ true

-- every entry is lawful
abbrev pub all_lawful : List ℕ → Bool
all_lawful xs = list_all is_lawful xs

-- the shown entries among one
abbrev pub unit : ℕ → ℕ
unit x = cond (is_shown x) 1 0

-- the shortest front part with u shown entries, or else the whole list
abbrev pub front : ℕ → List ℕ → List ℕ
front u [] = []
front u (x ∷ xs) = cond (u == 0) [] (x ∷ front (u - unit x) xs)

-- n copies of a list, one after another
unfoldable pub copies : ℕ → List ℕ → List ℕ
copies zero xs = []
copies (suc n) xs = xs ++ copies n xs

-- a list repeated from its first entry, to 4,096 entries
unfoldable pub repeated : List ℕ → List ℕ
repeated xs = take 4096 (copies 4096 xs)
