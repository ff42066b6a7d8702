-- How much a search has before it: what falls with each step of it, though steps copy patterns.
use Rattle.std.specs.Prelude.{ℕ, suc, ◌+◌, ◌*◌, List, [], ◌∷◌, length}
use Rattle.pattern_matrix.specs.Lines.{Member, Typed, Typeds, any, con, lit, either, none, also, Line}

-- how many parts constructors have together
abbrev pub total_parts : List Member → ℕ
total_parts [] = 0
total_parts (k ∷ ks) = k.parts + total_parts ks

-- how many patterns these are
abbrev pub number_of : Typeds → ℕ
number_of none = 0
number_of (also p ps) = suc (number_of ps)

-- at least as many as the lines without alternatives that a pattern stands for
abbrev mutual
  pub ways : Typed → ℕ
  ways any = 1
  ways (con all n ps) = ways_all ps
  ways (lit n) = 1
  ways (either ps) = suc (ways_some ps)

  -- the same of patterns side by side
  pub ways_all : Typeds → ℕ
  ways_all none = 1
  ways_all (also p ps) = ways p * ways_all ps

  -- the same of several alternatives
  pub ways_some : Typeds → ℕ
  ways_some none = 0
  ways_some (also p ps) = ways p + ways_some ps

-- what the constructors in all these lines weigh
abbrev mutual
  pub weight : Typed → ℕ
  weight any = 0
  weight (con all n ps) = weight_all ps + ways_all ps * (1 + total_parts all + number_of ps)
  weight (lit n) = 0
  weight (either ps) = suc (weight_some ps)

  -- the same of patterns side by side
  pub weight_all : Typeds → ℕ
  weight_all none = 0
  weight_all (also p ps) = weight p * ways_all ps + ways p * weight_all ps

  -- the same of several alternatives
  pub weight_some : Typeds → ℕ
  weight_some none = 0
  weight_some (also p ps) = weight p + weight_some ps

-- at least as many as the lines without alternatives that a line stands for
abbrev pub line_ways : Line → ℕ
line_ways [] = 1
line_ways (p ∷ rest) = ways p * line_ways rest

-- what the constructors in all these lines weigh
abbrev pub line_weight : Line → ℕ
line_weight [] = 0
line_weight (p ∷ rest) = weight p * line_ways rest + ways p * line_weight rest

-- the weight of several lines
abbrev pub lines_weight : List Line → ℕ
lines_weight [] = 0
lines_weight (l ∷ ls) = line_weight l + lines_weight ls

-- what is before a search of a row in lines
abbrev pub work : List Line → Line → ℕ
work ls row = lines_weight ls + line_weight row + length row
