use Rattle.tc_canon.specs.Tables.Actions.{tunnel_key_options}
use Rattle.tc_actions.specs.TunnelKey.{tunnel_key_body}
use Rattle.tc_values.proofs.Measures.{measured}
use Rattle.tc_actions.proofs.actions.tunnel_key.TcActionTunnelKeyOptionNla.checked_len.Goals as goal

pub returns : goal.returns
returns g c = measured tunnel_key_body tunnel_key_options _ _ _ _ c.view.ensures c.checked_len.ensures
