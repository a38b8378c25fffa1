-- What inner functions ask of each other: no promise rests on it.
use Rattle.std.specs.Prelude.{ℕ, ◌+◌, ◌-◌, ◌*◌, ◌/◌, ◌≤◌, ◌<◌, ◌≡◌, Bool, ◌⊎◌, List, ltb, ℤ, length, get_or}
use Rattle.numbers.specs.Choice.{pick}
use Rattle.numbers.specs.Column.{column, at}
use Rattle.numbers.specs.Sum.{sum, bit, count}
use Rattle.terms.specs.Quantities.{size_in}
use Rattle.terms.specs.declared.quantity.Direction.{Direction}
use Rattle.quota.specs.Quota.{whole, rest, ahead, rank}
use Rattle.quota.specs.declared.ratio.Ratio.{Ratio}

-- the sizes of a group: at most 64, none above 1,000,000
pub record Sized (s : List ℕ) : Type 0 where
  pub few : length s ≤ 64
  pub small : (i : ℕ) → get_or s i 0 ≤ 1000000

-- what a caller of the cut has to show: t is the sum of the sizes, and no more than it is cut
pub record Asked (s : List ℕ) (t c : ℕ) : Type 0 where
  pub sized : Sized s
  pub total : t ≡ sum s
  pub within : c ≤ t

-- and each size is 0, or that of its unit in the direction
pub record Own (d : Direction) (n1 : List ℤ) (s : List ℕ) : Type 0 where
  pub places : length n1 ≡ length s
  pub own : (i : ℕ) → 0 < get_or s i 0 → size_in d (at n1 i) ≡ get_or s i 0

-- a ratio of sizes: less than their sum is cut of them
pub record Sharing (s : List ℕ) (r : Ratio) : Type 0 where
  pub sized : Sized s
  pub total : r.t ≡ sum s

-- no whole part is above top, and every mark of a remainder is; marks of units that are told apart by size and place lie above tied, and below won
abbrev pub top : ℕ
top = 1048576

abbrev pub tied : ℕ
tied = 1073741824

abbrev pub won : ℕ
won = 2147483648

-- what stands for a unit of this whole part and remainder: the whole part where there is no remainder, else the remainder, above top
unfoldable pub mark_by : ℕ → ℕ → ℕ
mark_by w x = pick (ltb 0 x) (top + x) w

abbrev pub mark : List ℕ → ℕ → ℕ → ℕ
mark s c i = mark_by (whole s c i) (rest s c i)

unfoldable pub marks_of : List ℕ → ℕ → List ℕ
marks_of s c = column (length s) (mark s c)

-- at most 64 marks, none of them told apart yet, and more than the kWh that are left, of which there are some
pub record Marked (l : List ℕ) (left : ℕ) : Type 0 where
  pub few : length l ≤ 64
  pub some : 0 < left
  pub fewer : left < length l
  pub small : (k : ℕ) → get_or l k 0 < tied

-- unit j comes before unit i by their marks, and of one mark by size and place
unfoldable pub earlier_by : List ℕ → Direction → List ℤ → ℕ → ℕ → Bool
earlier_by l d n1 j i = ahead (get_or l i 0) (get_or l j 0) (size_in d (at n1 i)) (size_in d (at n1 j)) i j

-- how many entries are above x
unfoldable pub above : List ℕ → ℕ → ℕ
above l x = count (length l) (λ (j : ℕ). ltb x (get_or l j 0))

-- fewer marks are above high than kWh are left; where both ends are one number, just so many
pub record Spans (l : List ℕ) (left low high : ℕ) : Type 0 where
  pub order : low ≤ high
  pub highs : low < high → above l high < left
  pub met : low ≡ high → above l low ≡ left

-- a span made no wider, in which x does not lie; its lower end has moved only to where at least as many marks are above it as kWh are left
pub record Narrowed (l : List ℕ) (left low high x low' high' : ℕ) : Type 0 where
  pub spans : Spans l left low' high'
  pub lower : low ≤ low'
  pub higher : high' ≤ high
  pub lows : (low' ≡ low) ⊎ (left ≤ above l low')
  pub decided : (x ≤ low') ⊎ (high' ≤ x)

-- a span in which no mark lies, unless both ends are one number; its lower end is where it began, or at least as many marks are above it as kWh are left
pub record Parted (l : List ℕ) (left low low' high' : ℕ) : Type 0 where
  pub spans : Spans l left low' high'
  pub lower : low ≤ low'
  pub lows : (low' ≡ low) ⊎ (left ≤ above l low')
  pub decided : low' < high' → (k : ℕ) → k < length l → (get_or l k 0 ≤ low') ⊎ (high' ≤ get_or l k 0)

-- of the units that share a mark not all may be dealt a kWh: fewer marks are above it than kWh are left, and at least so many above every mark below it
pub record Tie (l : List ℕ) (left shared : ℕ) : Type 0 where
  pub marks : top < shared
  pub over : above l shared < left
  pub under : (k : ℕ) → k < length l → top < get_or l k 0 → get_or l k 0 < shared → left ≤ above l (get_or l k 0)

-- the mark m of unit i, of n kWh, where the units are told apart that share a mark: one below it stays, one above it has won, and the shared one gives way to size and place; i is below 64
unfoldable pub remark_by : ℕ → ℕ → ℕ → ℕ → ℕ
remark_by shared m n i = pick (ltb m shared) m (pick (ltb shared m) won (tied + n * 64 + (64 - i)))

unfoldable pub remarks_of : ℕ → Direction → List ℤ → List ℕ → List ℕ
remarks_of shared d n1 l = column (length l) (λ (i : ℕ). remark_by shared (get_or l i 0) (size_in d (at n1 i)) i)

-- marks m in place of the marks l: whole parts stand as they were, marks of remainders lie above top, and of them those of units that have fewer before them than kWh are left above x
pub record Parts (l : List ℕ) (left : ℕ) (d : Direction) (n1 : List ℤ) (m : List ℕ) (x : ℕ) : Type 0 where
  pub places : length m ≡ length l
  pub wholes : (k : ℕ) → k < length l → get_or l k 0 ≤ top → get_or m k 0 ≡ get_or l k 0
  pub marks : (k : ℕ) → k < length l → top < get_or l k 0 → top < get_or m k 0
  pub parts : (k : ℕ) → k < length l → top < get_or l k 0 → ltb x (get_or m k 0) ≡ ltb (rank (earlier_by l d n1) (length l) k) left

-- what a unit of n kWh in the direction loses whose mark is m: its mark where that is a whole part, else its whole part again and one kWh more where the mark is above x
unfoldable pub dealt_at : Direction → ℕ → ℕ → ℕ → ℤ → ℕ → ℕ
dealt_at d t c x n m = pick (ltb top m) (c * size_in d n / t + bit (ltb x m)) m
