mod Audited
