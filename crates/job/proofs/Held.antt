-- The two types that the functions of reader/ pass about, at a signature's one lifetime: a text that was lent, and a `Reader`, which holds one.
use Prim.Native.Nat.{ℕ}
use mathlib.Core.List.{List}
use lib.ListN.{length}
use seplogic.Ra.Ura.{Ura}
use mir.Syntax.{named, erased}
use mir.Val.{Val}
use types.Logic.{Logic}
use contract.Lifetimes.{Lfts}
use denote.RattleType.{RattleType}
use denote.Laws.{Is, Tells, Lawful}
use denote.Builtin.{u8}
use denote.Ref.{Bor, NamedLft}
use denote.Signature.{named_lft}
use denote.Slice.{slice_val, ShrSlice, shr_slice_vals, shr_slice_Tells, shr_slice_Lawful}
use denote.Struct.Declared.{Declared}
use denote.Struct.Laws as LL
use denote.Struct.Values.{Values}
use Rattle.job.specs.declared.reader.Reader.{Reader}
use Rattle.job.specs.contracts.reader.Reader as T
use Rattle.job.proofs.reader.Reader.TheLaws as T'

abbrev pub Lent : Lfts 1 → RattleType
Lent κs = ShrSlice (named 0) κs.0 u8

-- the machine value of a text
abbrev pub lent_val : Bor (List ℕ) → Val
lent_val s = slice_val s.ref_ptr (length s.now)

pub lent-tells : (κs : Lfts 1) → Tells (Lent κs) (Is (Lent κs)) shr_slice_vals
lent-tells κs = shr_slice_Tells (named 0) κs.0 u8

abbrev pub α : Lfts 1 → NamedLft
α κs = named_lft 1 0 tt κs

-- in a local MIR erases the lifetime; what the struct owns does not say its name
abbrev αᵉ : Lfts 1 → NamedLft
αᵉ κs = record { mir = erased; lft = κs.0 }

abbrev pub Held : Lfts 1 → RattleType
Held κs = T.the_row (α κs)

-- the struct's type and laws, and the values of its fields
abbrev pub D : Lfts 1 → Declared
D κs = T.the_type (α κs)

abbrev pub L : (κs : Lfts 1) → LL.Laws (D κs)
L κs = T'.the_laws (α κs)

abbrev pub fields : (κs : Lfts 1) → Reader → Values (D κs).parts
fields κs d = (d.text, (d.spot, tt))

abbrev pub held_vals : (κs : Lfts 1) → Reader → List Val
held_vals κs = LL.vals (D κs) (L κs)

pub held_tells : (κs : Lfts 1) → Tells (Held κs) (Is (Held κs)) (held_vals κs)
held_tells κs = LL.tells (D κs) (L κs)

module _ {M : Type 1} {𝓤 : Ura M} (𝓛 : Logic 𝓤) where
  pub lent_lawful : (κs : Lfts 1) → Lawful 𝓛 (Lent κs)
  lent_lawful κs = shr_slice_Lawful 𝓛 (named 0) κs.0 u8

  pub held_lawful : (κs : Lfts 1) → Lawful 𝓛 (Held κs)
  held_lawful κs = LL.lawful (D κs) (L κs) 𝓛

  pub local_lawful : (κs : Lfts 1) → Lawful 𝓛 (T.the_row (αᵉ κs))
  local_lawful κs = LL.lawful (T.the_type (αᵉ κs)) (T'.the_laws (αᵉ κs)) 𝓛
