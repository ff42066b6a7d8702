-- The page of a text's faults: which are told, and in which order.
use Rattle.std.specs.Prelude.{◌≡◌, ℕ, ◌+◌, List, [], ◌∷◌, ◌++◌, map, take, length, Bool, false, ◌&&◌, ◌||◌, nat_eq, nat_lt, codes, decimal, if◌then◌else◌}
use Rattle.tree_model.specs.Trees.{Place, place}
use Rattle.recovery_model.specs.Steps as recovery
use Rattle.recovery_model.specs.Steps.{added, skipped, too_deep, cut}

-- what tells a fault
pub data Source : Type 0 where
  parser : Source
  typer : Source
  warning : Source

-- the sources in the order in which they are told
abbrev pub rank : Source → ℕ
rank parser = 0
rank typer = 1
rank warning = 2

-- a fault: where it stands, what tells it, its kind and its message
pub record Fault : Type 0 where
  pub span : Place
  pub source : Source
  pub kind : List ℕ
  pub message : List ℕ

-- ---- the parser's faults

-- a fault that the parser tells, with its kind and message
abbrev pub by_parser : Place → List ℕ → List ℕ → Fault
by_parser p kind message = record { span = p; source = parser; kind = kind; message = message }

-- how many parts are missing, in words
abbrev pub missing_text : ℕ → List ℕ
missing_text n = if nat_eq n 1 then codes "1 part is missing here" else decimal n ++ codes " parts are missing here"

-- parts are missing at a place between two tokens
abbrev pub parts_missing : ℕ → ℕ → Fault
parts_missing p n = by_parser (place p p) (codes "added") (missing_text n)

-- a token that recovery skips
abbrev pub token_skipped : Place → Fault
token_skipped p = by_parser p (codes "skipped") (codes "This token does not fit here")

-- a token that is nested deeper than the parser follows
abbrev pub token_too_deep : Place → Fault
token_too_deep p = by_parser p (codes "deep") (codes "This token is nested too deeply")

-- an item that ends at a place though it could go on
abbrev pub item_cut : ℕ → Fault
item_cut at = by_parser (place at at) (codes "cut") (codes "The definition is cut off here")

-- a fault of recovery as it is told
abbrev pub told : recovery.Fault → Fault
told (added p n) = parts_missing p n
told (skipped t) = token_skipped (place t.start t.end)
told (too_deep t) = token_too_deep (place t.start t.end)
told (cut at) = item_cut at

-- ---- the typer's faults, and its warnings

-- the kinds of its faults; the last two are warnings
pub data TyperKind : Type 0 where
  bound : TyperKind
  equal : TyperKind
  arity : TyperKind
  label : TyperKind
  mutable : TyperKind
  complete : TyperKind
  unique : TyperKind
  sides : TyperKind
  range : TyperKind
  cycle : TyperKind
  reexport : TyperKind
  functor : TyperKind
  with : TyperKind
  closing : TyperKind
  matching : TyperKind
  missed : TyperKind
  unused : TyperKind

-- a kind as it is told
abbrev pub kind_name : TyperKind → List ℕ
kind_name bound = codes "bound"
kind_name equal = codes "equal"
kind_name arity = codes "arity"
kind_name label = codes "label"
kind_name mutable = codes "mutable"
kind_name complete = codes "complete"
kind_name unique = codes "unique"
kind_name sides = codes "sides"
kind_name range = codes "range"
kind_name cycle = codes "cycle"
kind_name reexport = codes "reexport"
kind_name functor = codes "functor"
kind_name with = codes "with"
kind_name closing = codes "closing"
kind_name matching = codes "match"
kind_name missed = codes "missed"
kind_name unused = codes "unused"

-- what tells faults of a kind
abbrev pub source_of : TyperKind → Source
source_of missed = warning
source_of unused = warning
source_of _ = typer

-- a fault of the typer, or a warning
pub record TyperFault : Type 0 where
  pub span : Place
  pub kind : TyperKind
  pub message : List ℕ

-- it as it is told
abbrev pub by_typer : TyperFault → Fault
by_typer f = record { span = f.span; source = source_of f.kind; kind = kind_name f.kind; message = f.message }

-- ---- their order

-- a place comes before another: by its start, or by its end where they start together
abbrev pub place_before : Place → Place → Bool
place_before p q = nat_lt p.start q.start || nat_eq p.start q.start && nat_lt p.end q.end

-- whether two places start and end alike
abbrev pub same_place : Place → Place → Bool
same_place p q = nat_eq p.start q.start && nat_eq p.end q.end

-- a fault is told before another: by its place, or by its source where they stand at one place
abbrev pub is_before : Fault → Fault → Bool
is_before f g = place_before f.span g.span || same_place f.span g.span && nat_lt (rank f.source) (rank g.source)

-- a fault put in front of the first that it is told before
abbrev pub placed : Fault → List Fault → List Fault
placed f [] = f ∷ []
placed f (g ∷ gs) = if is_before f g then f ∷ g ∷ gs else g ∷ placed f gs

-- how many faults stand in front of a fault, where it is put so
abbrev pub front : Fault → List Fault → ℕ
front f [] = 0
front f (g ∷ gs) = if is_before f g then 0 else 1 + front f gs

-- faults put one by one among others that are in order
abbrev pub placed_among : List Fault → List Fault → List Fault
placed_among done [] = done
placed_among done (f ∷ fs) = placed_among (placed f done) fs

-- the faults in order; those that are alike in it stay as they are given
unfoldable pub ordered : List Fault → List Fault
ordered fs = placed_among [] fs

-- none of these faults is told before the first one given
abbrev pub NoneBefore : Fault → List Fault → Type 0
NoneBefore f [] = Unit {0}
NoneBefore f (g ∷ gs) = (is_before g f ≡ false) × NoneBefore f gs

-- no fault is told before one that stands in front of it
abbrev pub InOrder : List Fault → Type 0
InOrder [] = Unit {0}
InOrder (f ∷ fs) = NoneBefore f fs × InOrder fs

-- ---- the page

-- the name of a source
abbrev pub source_name : Source → List ℕ
source_name parser = codes "parser"
source_name typer = codes "typer"
source_name warning = codes "warning"

-- a fault in the page, with its source by name
pub record Listed : Type 0 where
  pub span : Place
  pub kind : List ℕ
  pub message : List ℕ
  pub source : List ℕ

-- a fault as the page shows it
abbrev pub listed : Fault → Listed
listed f = record { span = f.span; kind = f.kind; message = f.message; source = source_name f.source }

-- how many faults are told
abbrev pub page_limit : ℕ
page_limit = 1000

-- the first faults in order
unfoldable pub page : List Fault → List Listed
page fs = map listed (take page_limit (ordered fs))

-- there are others
abbrev pub has_more : List Fault → Bool
has_more fs = nat_lt page_limit (length fs)
