-- Ways into a signature: through modules and module types, and into the two sides of a functor.
use Rattle.std.specs.Prelude.{ℕ, List, [], ◌∷◌, slice_get, Option, Some, None}
use Rattle.std.specs.declared.rc.Rc.{Rc}
use Rattle.std.specs.declared.alloc.Global.{Global}
use Rattle.env_table.specs.declared.entries.What.{What, out-What}
use Rattle.env_table.specs.declared.entries.Entry.{Entry}
use Rattle.env_table.specs.declared.entries.Sig.{Sig, out-Sig}
use Rattle.env_table.specs.declared.entries.Sig.TheOpen.{Sig-F, What-F}
use Rattle.env_table.specs.declared.entries.Components.{Components, out-Components}
use Rattle.env_table.specs.declared.entries.Template.{Template, out-Template}
use Rattle.sig_template.specs.Structures.{entries_of}

-- a step into a signature
pub data Step : Type 0 where
  -- the module or the module type that is the component of this number
  Component : ℕ → Step
  -- the parameter of a functor
  Parameter : Step
  -- the body of a functor
  Body : Step

-- the signature of a template
abbrev pub sig_of : Template → Sig
sig_of t = (out-Template t).sig.value

-- the signature of a module or of a module type
abbrev pub within_opened : {C E : Type 0} → What-F Sig What C E Template → Option Sig
within_opened (What-F.Scheme n) = None
within_opened (What-F.Constructor d k) = None
within_opened (What-F.Exception c) = None
within_opened (What-F.Label d k) = None
within_opened (What-F.Type d) = None
within_opened (What-F.Module s) = Some s.value
within_opened (What-F.ModuleType t) = Some (sig_of t.value)

-- the signature in an entry
abbrev pub within : Option Entry → Option Sig
within None = None
within (Some e) = within_opened (out-What e.what)

-- one step
abbrev pub next_opened : Step → Sig-F Sig What Components Entry Template → Option Sig
next_opened (Component k) (Sig-F.Structure c) = within (slice_get (entries_of (out-Components c).entries.items) k)
next_opened (Component k) (Sig-F.Functor p b) = None
next_opened (Component k) Sig-F.Hole = None
next_opened Parameter (Sig-F.Structure c) = None
next_opened Parameter (Sig-F.Functor p b) = Some (sig_of p.value)
next_opened Parameter Sig-F.Hole = None
next_opened Body (Sig-F.Structure c) = None
next_opened Body (Sig-F.Functor p b) = Some (sig_of b.value)
next_opened Body Sig-F.Hole = None

-- one step from where a signature is
abbrev pub next : Step → Option Sig → Option Sig
next step None = None
next step (Some s) = next_opened step (out-Sig s)

-- the signature to which a way leads
abbrev pub sub : List Step → Option Sig → Option Sig
sub [] s = s
sub (step ∷ way) s = sub way (next step s)

-- the components of a structure, with their owners; of a functor and of a hole there are none
abbrev pub components_opened : {T : Type 0} → Sig-F Sig What Components Entry T → Option (List (Rc Entry Global))
components_opened (Sig-F.Structure c) = Some (out-Components c).entries.items
components_opened (Sig-F.Functor p b) = None
components_opened Sig-F.Hole = None

abbrev pub components_of : Sig → Option (List (Rc Entry Global))
components_of s = components_opened (out-Sig s)
