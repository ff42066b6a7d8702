-- What stands behind the bits of a fork, by its parts.
use Rattle.std.proofs.Common.{◌≡◌, List, [], ◌∷◌, Bool, true, false, refl, ap, ◌∙◌, sym, Option, Some, None}
use Rattle.std.specs.declared.rc.Rc.{Rc}
use Rattle.std.specs.declared.alloc.Global.{Global}
use Rattle.env_table.specs.declared.entries.Entry.{Entry}
use Rattle.env_table.specs.declared.links.Link.{Link}
use Rattle.env_table.specs.declared.index.Fork.{Fork, out-Fork, roll-Fork, fold-roll-Fork, fold_out-Fork}
use Rattle.env_table.specs.declared.index.Fork.TheOpen.{Fork-F}
use Rattle.env_table.specs.declared.index.Fork.TheFolds.{map-Fork}
use Rattle.env_table.specs.Views.{links_view}
use Rattle.env_table.specs.Index.{Index, Key, index_at, fork_at, fork_step, Adds, AddsBy, IsIndex}

abbrev pub parts_at : Option (Rc Link Global) → Index → Index → List Bool → List Entry
parts_at b e o [] = links_view b
parts_at b e o (true ∷ ks) = index_at o ks
parts_at b e o (false ∷ ks) = index_at e ks

folded : (f : Fork-F Fork) (ks : List Bool) → fork_at (roll-Fork f) ks ≡ fork_step (map-Fork Fork (List Bool → List Entry) fork_at f) ks
folded f ks = ap (λ (go : List Bool → List Entry). go ks) (fold-roll-Fork (List Bool → List Entry) fork_step f)

of_parts : (b : Option (Rc Link Global)) (e o : Index) (ks : List Bool) → fork_at (roll-Fork record { bucket = b; even = e; odd = o }) ks ≡ parts_at b e o ks
of_parts b e o [] = folded record { bucket = b; even = e; odd = o } []
of_parts b e None (true ∷ ks) = folded record { bucket = b; even = e; odd = None } (true ∷ ks)
of_parts b e (Some r) (true ∷ ks) = folded record { bucket = b; even = e; odd = Some r } (true ∷ ks)
of_parts b None o (false ∷ ks) = folded record { bucket = b; even = None; odd = o } (false ∷ ks)
of_parts b (Some r) o (false ∷ ks) = folded record { bucket = b; even = Some r; odd = o } (false ∷ ks)

pub rolled_at : (f : Fork-F Fork) (ks : List Bool) → fork_at (roll-Fork f) ks ≡ parts_at f.bucket f.even f.odd ks
rolled_at f ks = of_parts f.bucket f.even f.odd ks

pub opened_at : (f : Fork) (ks : List Bool) → fork_at f ks ≡ parts_at (out-Fork f).bucket (out-Fork f).even (out-Fork f).odd ks
opened_at f ks =
    let opened : fork_at f ks ≡ fork_step (map-Fork Fork (List Bool → List Entry) fork_at (out-Fork f)) ks = ap (λ (go : List Bool → List Entry). go ks) (fold_out-Fork (List Bool → List Entry) fork_step f) in
    opened ∙ (sym (folded (out-Fork f) ks) ∙ rolled_at (out-Fork f) ks)

pub adds_here : (b c : Option (Rc Link Global)) (e o : Index) (x : Entry) → links_view c ≡ (x ∷ links_view b) → Adds (parts_at b e o) [] x (parts_at c e o)
adds_here b c e o x h [] = h
adds_here b c e o x h (true ∷ ks) = refl
adds_here b c e o x h (false ∷ ks) = refl

pub adds_odd : (b : Option (Rc Link Global)) (e o p : Index) (x : Entry) (key : List Bool) → Adds (index_at o) key x (index_at p) → Adds (parts_at b e o) (true ∷ key) x (parts_at b e p)
adds_odd b e o p x key h [] = refl
adds_odd b e o p x key h (true ∷ ks) = h ks
adds_odd b e o p x key h (false ∷ ks) = refl

pub adds_even : (b : Option (Rc Link Global)) (e o p : Index) (x : Entry) (key : List Bool) → Adds (index_at e) key x (index_at p) → Adds (parts_at b e o) (false ∷ key) x (parts_at b p o)
adds_even b e o p x key h [] = refl
adds_even b e o p x key h (true ∷ ks) = refl
adds_even b e o p x key h (false ∷ ks) = h ks

-- the index of entries with one more of them
pub more_indexed : (key : Key) (links more : Option (Rc Link Global)) (old new : Index) (x : Entry) → IsIndex key old links → AddsBy key (index_at old) x (index_at new)
    → links_view more ≡ (x ∷ links_view links) → IsIndex key new more
unfolding IsIndex
more_indexed key links more old new x index adds linked ks = adds ks ∙ rw (linked, index ks)
