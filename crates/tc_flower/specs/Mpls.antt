-- The abstract values of matches on a label stack.
use Rattle.std.specs.Prelude.{◌≡◌, map}
use Rattle.nla_frames.specs.DefaultNla.{kept_frame}
use Rattle.tc_canon.specs.Descriptor.{table}
use Rattle.tc_canon.specs.Tables.Flower.{lse_options}
use Rattle.tc_meaning.specs.Tree.{Attribute, known, other, number, items, attributes_of}
use Rattle.tc_values.specs.Inner.{Inner}
use Rattle.tc_values.specs.Bodies.{items_of}
use Rattle.tc_values.specs.declared.body.Items.{Items}
use Rattle.tc_flower.specs.declared.filters.flower.mpls.TcFilterFlowerMplsLseOption.{TcFilterFlowerMplsLseOption}
use Rattle.tc_flower.specs.declared.filters.flower.mpls.TcFilterFlowerMplsLseOption.TheVariants as lse
use Rattle.tc_flower.specs.declared.filters.flower.mpls.TcFilterFlowerMplsOption.{TcFilterFlowerMplsOption}
use Rattle.tc_flower.specs.declared.filters.flower.mpls.TcFilterFlowerMplsOption.TheVariants as mpls

abbrev pub lse_option : {A : Type 0} → TcFilterFlowerMplsLseOption A → Attribute
lse_option (lse.LseDepth n) = known 1 (number n)
lse_option (lse.LseTtl n) = known 2 (number n)
lse_option (lse.LseBos n) = known 3 (number n)
lse_option (lse.LseTc n) = known 4 (number n)
lse_option (lse.LseLabel n) = known 5 (number n)
lse_option (lse.Other nla) = other (kept_frame nla).word (kept_frame nla).value

-- two of them hold the same: one that is kept raw the same word and payload; all others are equal
abbrev pub SameLse : {A : Type 0} → TcFilterFlowerMplsLseOption A → TcFilterFlowerMplsLseOption A → Type 0
SameLse (lse.Other x) (lse.Other y) = kept_frame x ≡ kept_frame y
SameLse a b = a ≡ b

abbrev pub mpls_option : {A : Type 0} → TcFilterFlowerMplsOption A → Attribute
mpls_option (mpls.Lse entries) = known 1 (items (attributes_of (map lse_option entries.items)))
mpls_option (mpls.Other nla) = other (kept_frame nla).word (kept_frame nla).value

-- two options hold the same: matches on an entry that are equal one by one; one that is kept raw the same word and
-- payload
abbrev pub SameMpls : {A : Type 0} → TcFilterFlowerMplsOption A → TcFilterFlowerMplsOption A → Type 0
SameMpls (mpls.Lse v) (mpls.Lse w) = map lse_option v.items ≡ map lse_option w.items
SameMpls (mpls.Other x) (mpls.Other y) = kept_frame x ≡ kept_frame y
SameMpls a b = ⊥

-- nested values of the options of MPLS
abbrev pub lse_lists : {A : Type 0} → Inner (Items (TcFilterFlowerMplsLseOption A))
lse_lists = items_of lse_option (table lse_options)
