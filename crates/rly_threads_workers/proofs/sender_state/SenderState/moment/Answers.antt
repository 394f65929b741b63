use Rattle.std.proofs.Common.{◌≡◌, ◌∙◌, ap}
use Rattle.rly_hop_pacing.specs.CongestionControl.{ControlView, on_time}
use Rattle.rly_threads_workers.specs.SenderState.{set_back_if, with_contact, with_custody, with_reports}
use Rattle.rly_threads_workers.specs.declared.sender_state.SenderState.{SenderState}
use Rattle.rly_threads_workers.proofs.sender_state.SenderState.moment.Goals as goal

pub returns : goal.returns
returns c =
    let old = c.args.self.now in
    let at = c.args.at in
    let contact : c.set_back.new.self ≡ with_contact old c.args.is_open =
    c.set_back.ensures ∙ (λ i. set_back_if (c.contact-opens.ensures.opening i) (record old { pace = c.contact-opens.ensures.state i })) in
    let told : c.hear_reports.new.self ≡ with_reports (with_custody (with_contact old c.args.is_open) at) at =
    c.hear_reports.ensures
    ∙ ap (λ (s : SenderState). with_reports s at) (c.hear_custody.ensures ∙ ap (λ (s : SenderState). with_custody s at) contact) in
    ap (λ (v : ControlView). record c.hear_reports.new.self { pace = v }) c.moment.ensures
    ∙ ap (λ (s : SenderState). record s { pace = on_time s.pace at }) told
