use Rattle.tc_canon.specs.Tables.Actions.{tunnel_key_options}
use Rattle.tc_values.proofs.Rows.{shown_as}
use Rattle.tc_actions.specs.TunnelKey.{tunnel_key_body}
use Rattle.tc_actions.proofs.OptionBodies.{is_tunnel_key_body}
use Rattle.tc_actions.proofs.actions.tunnel_key.TcActionTunnelKeyOption.view.Goals as goal

pub returns : goal.returns
returns g c = shown_as tunnel_key_body is_tunnel_key_body tunnel_key_options _ _ _ c.row.ensures.seen c.row.ensures.row
