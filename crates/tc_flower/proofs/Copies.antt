-- A copy of an option without a list has the same abstract value.
use Rattle.std.proofs.Common.{◌≡◌, Bool, true, false, sym, ap, ◌∙◌}
use Rattle.tc_meaning.specs.Tree.{Attribute, known, items}
use Rattle.tc_actions.specs.declared.actions.action.TcAction.{TcAction}
use Rattle.tc_flower.specs.declared.filters.flower.mpls.TcFilterFlowerMplsOption.{TcFilterFlowerMplsOption}
use Rattle.tc_flower.specs.declared.filters.flower.options.TcFilterFlowerOption.{TcFilterFlowerOption}
use Rattle.tc_flower.specs.declared.filters.flower.options.TcFilterFlowerOption.TheVariants.{Actions, MplsOpts}
use Rattle.tc_flower.specs.Flower.{flower_option, IsCopy}

-- a list under a type
abbrev is_list : Attribute → Bool
is_list (known n (items xs)) = true
is_list x = false

module _ {A : Type 0} (ActionCopied : TcAction A → TcAction A → Type 0) (MplsCopied : TcFilterFlowerMplsOption A → TcFilterFlowerMplsOption A → Type 0)
    (x : Attribute) (plain : is_list x ≡ false) where
  pub plain_copied : (option copy : TcFilterFlowerOption A) → flower_option option ≡ x → flower_option copy ≡ x → IsCopy ActionCopied MplsCopied option copy
  plain_copied (Actions actions) copy seen same = let list = ap is_list seen in absurd (cc (list, plain))
  plain_copied (MplsOpts options) copy seen same = let list = ap is_list seen in absurd (cc (list, plain))
  plain_copied option copy seen same = same ∙ sym seen
